-- The numbers of a request are those that its row takes.
use Rattle.std.proofs.Common.{List, ℕ}
use Rattle.commands.specs.Requests.{RequestText, check, decode, encode, replay, make, serve, post, client, layers, calls, AsksFor, IsInRange}

pub in_range : (words : List (List ℕ)) (r : RequestText) → AsksFor words r → IsInRange r
in_range words (check schema) asks = tt
in_range words (decode schema type input) asks = tt
in_range words (encode schema type input) asks = tt
in_range words (replay schema journal clients) (n, is, os, oj, number) = (number.least, number.most)
in_range words (make schema number steps) (n, s, is, os, run, some) = (some.least, some.most)
in_range words (serve schema address sessions) (n, is, os, oa, number) = (number.least, number.most)
in_range words (post schema address input) asks = tt
in_range words (client schema address state channels) asks = tt
in_range words (layers old new type) asks = tt
in_range words (calls schema input) asks = tt
