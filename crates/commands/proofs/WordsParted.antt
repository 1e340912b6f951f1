-- What the words ask for, from what those that clap reads ask for and from the words after them.
use Rattle.std.proofs.Common.{◌≡◌, ◌∙◌, ◌++◌, ℕ, ℤ, List, [], ◌∷◌, Bool, true, false, take, drop, map, refl, sym, ap, ap₂, subst, Option, Some, Result, Ok, Err, option_map, codes, true≢false}
use Rattle.std.specs.Prelude.{IfOk}
use Rattle.std.proofs.lemmas.List.{take-append-drop, drop-take}
use Rattle.commands.specs.Requests.{RequestText, check, decode, encode, replay, make, serve, post, client, layers, calls, AsksFor, AsksNothing, FindsRequest, request_text}
use Rattle.commands.specs.declared.request.Request.{Request}
use Rattle.commands.specs.CommandLine.{begins_client, fixed_words, more_words, are_channels, channel_of, with_channels}
use Rattle.commands.proofs.Channels.{all_channels, channels_there}
use Rattle.commands.proofs.Rows.{asks_nothing, may_ask_for}
use Rattle.commands.proofs.WordsRead.{Makes, finds}

abbrev Words : Type 0
Words = List (List ℕ)

-- ---- the command

another : {P : Type 0} (words others : Words) → begins_client others ≡ false → words ≡ others → begins_client words ≡ true → P
another words others not is begins = absurd (true≢false (sym begins ∙ ap begins_client is ∙ not))

only_client : (P : RequestText → Type 0) (words : Words) (r : RequestText) → begins_client words ≡ true → AsksFor words r
    → ((schema address state : List ℕ) (channels : List ℤ) → AsksFor words (client schema address state channels) → P (client schema address state channels)) → P r
only_client P words (check schema) begins asks each = another words _ refl asks.0 begins
only_client P words (decode schema type input) begins asks each = another words _ refl asks.0 begins
only_client P words (encode schema type input) begins asks each = another words _ refl asks.0 begins
only_client P words (replay schema journal clients) begins asks each = another words _ refl asks.1 begins
only_client P words (make schema number steps) begins asks each = another words _ refl asks.2 begins
only_client P words (serve schema address sessions) begins asks each = another words _ refl asks.1 begins
only_client P words (post schema address input) begins asks each = another words _ refl asks.0 begins
only_client P words (client schema address state channels) begins asks each = each schema address state channels asks
only_client P words (layers old new type) begins asks each = another words _ refl asks.0 begins
only_client P words (calls schema input) begins asks each = another words _ refl asks.0 begins

-- a request of another command has no channels
kept : (ws words : Words) (r : RequestText) → begins_client words ≡ false → AsksFor words r → with_channels ws r ≡ Some r
kept ws words (check schema) not asks = refl
kept ws words (decode schema type input) not asks = refl
kept ws words (encode schema type input) not asks = refl
kept ws words (replay schema journal clients) not asks = refl
kept ws words (make schema number steps) not asks = refl
kept ws words (serve schema address sessions) not asks = refl
kept ws words (post schema address input) not asks = refl
kept ws words (client schema address state channels) not asks = absurd (true≢false (sym (ap begins_client asks.1) ∙ not))
kept ws words (layers old new type) not asks = refl
kept ws words (calls schema input) not asks = refl

-- ---- the words' parts

fixed_same : (words : Words) → begins_client words ≡ false → fixed_words words ≡ words
fixed_same words not = rw not refl

fixed_four : (words : Words) → begins_client words ≡ true → fixed_words words ≡ take 4 words
fixed_four words begins = rw begins refl

more_four : (words : Words) → begins_client words ≡ true → more_words words ≡ drop 4 words
more_four words begins = rw begins refl

more_none : (words : Words) → begins_client words ≡ false → more_words words ≡ []
more_none words not = rw not refl

four_begin : (words : Words) → begins_client words ≡ true → begins_client (take 4 words) ≡ true
four_begin [] begins = begins
four_begin (w ∷ ws) begins = begins

-- ---- a client's channels

module _ (words : Words) (schema address state : List ℕ) (channels : List ℤ) (asks : AsksFor (take 4 words) (client schema address state channels)) where
  words_are : words ≡ codes "client" ∷ schema ∷ address ∷ state ∷ drop 4 words
  words_are =
      let more = asks.0 in
      let none : more ≡ [] = sym (ap (drop 4) asks.1) ∙ drop-take 4 0 words in
      sym (take-append-drop 4 words) ∙ ap₂ (λ (xs ys : Words). xs ++ ys) (asks.1 ∙ ap (λ (ws : Words). codes "client" ∷ schema ∷ address ∷ state ∷ ws) none) refl

  client_makes : (b : Bool) → are_channels (drop 4 words) ≡ b → Makes words (with_channels (drop 4 words) (client schema address state channels))
  client_makes true e = rw e (drop 4 words, words_are, asks.2, asks.3, asks.4, channels_there (drop 4 words) e)
  client_makes false e =
      rw e (asks_nothing words (client schema address state (map channel_of (drop 4 words))) (ap may_ask_for words_are)
      (λ also. true≢false (sym (all_channels also.0 _ also.5) ∙ ap are_channels (sym (ap (drop 4) also.1)) ∙ e)))

-- ---- what is found

makes_same : (words : Words) (r : RequestText) → begins_client words ≡ false → AsksFor words r → Makes words (with_channels [] r)
makes_same words r not asks = subst (Makes words) (sym (kept [] words r not asks)) asks

makes : (words : Words) (r : RequestText) (b : Bool) → begins_client words ≡ b → AsksFor (fixed_words words) r → Makes words (with_channels (more_words words) r)
makes words r false is asks = rw (more_none words is) (makes_same words r is (subst (λ (ws : Words). AsksFor ws r) (fixed_same words is) asks))
makes words r true is asks =
    rw (more_four words is) (only_client (λ (s : RequestText). Makes words (with_channels (drop 4 words) s)) (take 4 words) r (four_begin words is) (subst (λ (ws : Words). AsksFor ws r) (fixed_four words is) asks)
    (λ schema address state channels also. client_makes words schema address state channels also (are_channels (drop 4 words)) refl))

module _ (words fixed more : Words) (is : fixed ≡ fixed_words words) (after : more ≡ more_words words) where
  finds_all : (r : RequestText) (o : Option Request) → AsksFor fixed r → option_map request_text o ≡ with_channels more r → FindsRequest words o
  finds_all r o asks gives =
      finds words o (subst (Makes words) (sym (gives ∙ ap (λ (ws : Words). with_channels ws r) after))
      (makes words r (begins_client words) refl (subst (λ (ws : Words). AsksFor ws r) is asks)))

  pub finds_if_ok : {E : Type 0} (r : RequestText) (o : Result (Option Request) E) → AsksFor fixed r → IfOk o (λ q. option_map request_text q ≡ with_channels more r) → IfOk o (FindsRequest words)
  finds_if_ok r (Ok o) asks gives = finds_all r o asks gives
  finds_if_ok r (Err e) asks gives = tt

none_fixed : (words : Words) (b : Bool) → begins_client words ≡ b → AsksNothing (fixed_words words) → AsksNothing words
none_fixed words false is none = subst AsksNothing (fixed_same words is) none
none_fixed words true is none = λ r asks. only_client (λ (s : RequestText). ⊥) words r is asks
    (λ schema address state channels also. subst AsksNothing (fixed_four words is) none (client schema address state []) ([], ap (take 4) also.1, also.2, also.3, also.4, tt))

pub finds_none : (words fixed : Words) → fixed ≡ fixed_words words → AsksNothing fixed → AsksNothing words
finds_none words fixed is none = none_fixed words (begins_client words) refl (subst AsksNothing is none)
