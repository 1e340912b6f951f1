-- How many items a list has whose texts are read.
use Rattle.std.proofs.Common.{◌≡◌, length, Vec, Global, map, arith}
use Rattle.std.specs.Vec.{vec_len}
use Rattle.std.proofs.lemmas.List.{length-map}

pub count_is : {A B : Type 0} (f : A → B) (v : Vec A Global) → length (map f v.items) ≡ vec_len v
count_is f v = omega (arith, length-map v.items f, v.ok.0)
