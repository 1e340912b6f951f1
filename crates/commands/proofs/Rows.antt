-- The rows of words: they ask for one request at most, and whether they do is decided.
use Rattle.std.proofs.Common.{get_or, drop, map, ◌≡◌, ℕ, ℤ, List, [], ◌∷◌, refl, sym, ap, ap₂, ◌∙◌, subst, inl, inr, codes}
use Rattle.std.specs.Prelude.{if◌then◌else◌, ◌==◌}
use Rattle.std.proofs.lemmas.Bool.{cases_eq}
use Rattle.commands.proofs.Decided.{Decided, decided_as, decided_and, decided_not, text_decided}
use Rattle.commands.proofs.NumberWords.{number_decided}
use Rattle.commands.proofs.Channels.{channels_are, channels_decided}
use Rattle.commands.specs.Numbers.{IsNumberWord, number_from}
use Rattle.commands.specs.Requests.{RequestText, check, decode, encode, replay, make, serve, post, client, layers, calls, IsOperand, AreChannels, clients_range, run_range, sessions_range, steps_range, Asks, AsksFor, AsksNothing, nothing, something}
use Rattle.commands.specs.CommandLine.{channel_of}
use Rattle.commands.specs.declared.number.Range.{Range}

-- ---- one request

-- the request that words may ask for, by the first two letters of the command
abbrev of_letters : ℕ → ℕ → List ℕ → List ℕ → List ℕ → List (List ℕ) → RequestText
of_letters letter second a b c more =
    if letter == 99 then (if second == 108 then client a b c (map channel_of more) else if second == 97 then calls a b else check a)
    else if letter == 100 then decode a b c
    else if letter == 101 then encode a b c
    else if letter == 108 then layers a b c
    else if letter == 109 then make a (number_from 0 b) (number_from 0 c)
    else if letter == 112 then post a b c
    else if letter == 115 then serve a b (number_from 0 c)
    else replay a b (number_from 0 c)

abbrev pub may_ask_for : List (List ℕ) → RequestText
may_ask_for words = of_letters (get_or (get_or words 0 []) 0 0) (get_or (get_or words 0 []) 1 0) (get_or words 1 []) (get_or words 2 []) (get_or words 3 []) (drop 4 words)

asked_is : (words : List (List ℕ)) (r : RequestText) → AsksFor words r → may_ask_for words ≡ r
asked_is words (check schema) asks = ap may_ask_for asks.0
asked_is words (decode schema type input) asks = ap may_ask_for asks.0
asked_is words (encode schema type input) asks = ap may_ask_for asks.0
asked_is words (replay schema journal clients) (n, is, os, oj, number) = ap may_ask_for is ∙ ap (replay schema journal) (sym number.value)
asked_is words (make schema number steps) (n, s, is, os, run, some) = ap may_ask_for is ∙ ap₂ (make schema) (sym run.value) (sym some.value)
asked_is words (serve schema address sessions) (n, is, os, oa, number) = ap may_ask_for is ∙ ap (serve schema address) (sym number.value)
asked_is words (post schema address input) asks = ap may_ask_for asks.0
asked_is words (client schema address state channels) (more, is, os, oa, ot, each) = ap may_ask_for is ∙ ap (client schema address state) (channels_are more channels each)
asked_is words (layers old new type) asks = ap may_ask_for asks.0
asked_is words (calls schema input) asks = ap may_ask_for asks.0

pub one_request : (words : List (List ℕ)) (r s : RequestText) → AsksFor words r → AsksFor words s → r ≡ s
one_request words r s p q = sym (asked_is words r p) ∙ asked_is words s q

-- words that don't ask for what they may ask for ask for nothing
pub asks_nothing : (words : List (List ℕ)) (r : RequestText) → may_ask_for words ≡ r → (AsksFor words r → ⊥) → AsksNothing words
asks_nothing words r may never s asks = never (subst (AsksFor words) (sym (asked_is words s asks) ∙ may) asks)

-- ---- whether words ask for a request

operand_decided : (word : List ℕ) → Decided (IsOperand word)
operand_decided [] = inr (λ h. h)
operand_decided (b ∷ bs) = decided_not (cases_eq b 45)

rows : (x y : List ℕ) (xs ys : List (List ℕ)) → Decided (x ≡ y) → Decided (xs ≡ ys) → Decided (x ∷ xs ≡ y ∷ ys)
rows x y xs ys (inl e) (inl f) = inl cc
rows x y xs ys (inl e) (inr n) = inr (λ f. n cc)
rows x y xs ys (inr n) d = inr (λ f. n cc)

row_decided : (xs ys : List (List ℕ)) → Decided (xs ≡ ys)
row_decided [] [] = inl refl
row_decided [] (y ∷ ys) = inr (λ e. absurd cc)
row_decided (x ∷ xs) [] = inr (λ e. absurd cc)
row_decided (x ∷ xs) (y ∷ ys) = rows x y xs ys (text_decided x y) (row_decided xs ys)

-- of a command with three operands
three_decided : (words : List (List ℕ)) (command schema type input : List ℕ) → Decided ((words ≡ command ∷ schema ∷ type ∷ input ∷ []) × IsOperand schema × IsOperand type × IsOperand input)
three_decided words command schema type input = decided_as (λ h. (h.0.0, h.0.1, h.1.0, h.1.1)) (λ h. ((h.0, h.1), (h.2, h.3)))
    (decided_and (decided_and (row_decided words (command ∷ schema ∷ type ∷ input ∷ [])) (operand_decided schema)) (decided_and (operand_decided type) (operand_decided input)))

-- of a command with two operands
two_decided : (words : List (List ℕ)) (command schema input : List ℕ) → Decided ((words ≡ command ∷ schema ∷ input ∷ []) × IsOperand schema × IsOperand input)
two_decided words command schema input = decided_as (λ h. (h.0.0, h.0.1, h.1)) (λ h. ((h.0, h.1), h.2)) (decided_and (decided_and (row_decided words (command ∷ schema ∷ input ∷ [])) (operand_decided schema)) (operand_decided input))

-- of a command with two operands and a number
module _ (words : List (List ℕ)) (command schema other : List ℕ) (range : Range) (n : ℕ) where
  abbrev Numbered : Type 0
  Numbered = (w : List ℕ) × (words ≡ command ∷ schema ∷ other ∷ w ∷ []) × IsOperand schema × IsOperand other × IsNumberWord range w n

  numbered_parts : Numbered → ((words ≡ command ∷ schema ∷ other ∷ get_or words 3 [] ∷ []) × IsOperand schema) × (IsOperand other × IsNumberWord range (get_or words 3 []) n)
  numbered_parts (w, is, os, oo, number) =
      let third : w ≡ get_or words 3 [] = sym (ap (λ (ws : List (List ℕ)). get_or ws 3 []) is) in
      ((is ∙ ap (λ (u : List ℕ). command ∷ schema ∷ other ∷ u ∷ []) third, os), (oo, subst (λ (u : List ℕ). IsNumberWord range u n) third number))

  numbered_decided : Decided Numbered
  numbered_decided = decided_as (λ h. (get_or words 3 [], h.0.0, h.0.1, h.1.0, h.1.1)) numbered_parts
      (decided_and (decided_and (row_decided words (command ∷ schema ∷ other ∷ get_or words 3 [] ∷ [])) (operand_decided schema)) (decided_and (operand_decided other) (number_decided range (get_or words 3 []) n)))

make_parts : (words : List (List ℕ)) (schema : List ℕ) (number steps : ℕ) → AsksFor words (make schema number steps)
    → ((words ≡ codes "make" ∷ schema ∷ get_or words 2 [] ∷ get_or words 3 [] ∷ []) × IsOperand schema) × (IsNumberWord run_range (get_or words 2 []) number × IsNumberWord steps_range (get_or words 3 []) steps)
make_parts words schema number steps (n, s, is, os, run, some) =
    let second : n ≡ get_or words 2 [] = sym (ap (λ (ws : List (List ℕ)). get_or ws 2 []) is) in
    let third : s ≡ get_or words 3 [] = sym (ap (λ (ws : List (List ℕ)). get_or ws 3 []) is) in (
      (is ∙ ap₂ (λ (w u : List ℕ). codes "make" ∷ schema ∷ w ∷ u ∷ []) second third, os),
      (subst (λ (w : List ℕ). IsNumberWord run_range w number) second run, subst (λ (w : List ℕ). IsNumberWord steps_range w steps) third some),
    )

client_parts : (words : List (List ℕ)) (schema address state : List ℕ) (channels : List ℤ) → AsksFor words (client schema address state channels)
    → ((words ≡ codes "client" ∷ schema ∷ address ∷ state ∷ drop 4 words) × IsOperand schema) × ((IsOperand address × IsOperand state) × AreChannels (drop 4 words) channels)
client_parts words schema address state channels (more, is, os, oa, ot, each) =
    let rest : more ≡ drop 4 words = sym (ap (drop 4) is) in
    ((is ∙ ap (λ (ws : List (List ℕ)). codes "client" ∷ schema ∷ address ∷ state ∷ ws) rest, os), ((oa, ot), subst (λ (ws : List (List ℕ)). AreChannels ws channels) rest each))

asked_decided : (words : List (List ℕ)) (r : RequestText) → Decided (AsksFor words r)
asked_decided words (check schema) = decided_and (row_decided words (codes "check" ∷ schema ∷ [])) (operand_decided schema)
asked_decided words (decode schema type input) = three_decided words (codes "decode") schema type input
asked_decided words (encode schema type input) = three_decided words (codes "encode") schema type input
asked_decided words (replay schema journal clients) = numbered_decided words (codes "replay") schema journal clients_range clients
asked_decided words (make schema number steps) =
    let n = get_or words 2 [] in
    let s = get_or words 3 [] in
    decided_as (λ h. (n, s, h.0.0, h.0.1, h.1.0, h.1.1)) (λ asks. make_parts words schema number steps asks)
    (decided_and (decided_and (row_decided words (codes "make" ∷ schema ∷ n ∷ s ∷ [])) (operand_decided schema)) (decided_and (number_decided run_range n number) (number_decided steps_range s steps)))
asked_decided words (serve schema address sessions) = numbered_decided words (codes "serve") schema address sessions_range sessions
asked_decided words (post schema address input) = three_decided words (codes "post") schema address input
asked_decided words (client schema address state channels) =
    let more = drop 4 words in
    decided_as (λ h. (more, h.0.0, h.0.1, h.1.0.0, h.1.0.1, h.1.1)) (λ asks. client_parts words schema address state channels asks)
    (decided_and (decided_and (row_decided words (codes "client" ∷ schema ∷ address ∷ state ∷ more)) (operand_decided schema))
    (decided_and (decided_and (operand_decided address) (operand_decided state)) (channels_decided more channels)))
asked_decided words (layers old new type) = three_decided words (codes "layers") old new type
asked_decided words (calls schema input) = two_decided words (codes "calls") schema input

asks_from : (words : List (List ℕ)) → Decided (AsksFor words (may_ask_for words)) → Asks words
asks_from words (inl asks) = something (may_ask_for words) asks
asks_from words (inr never) = nothing (asks_nothing words (may_ask_for words) refl never)

pub each_asks : (words : List (List ℕ)) → Asks words
each_asks words = asks_from words (asked_decided words (may_ask_for words))
