-- The words after those that clap reads, and the channels that they are.
use Rattle.std.proofs.Common.{◌≡◌, ◌∙◌, ◌<◌, ◌+◌, ◌++◌, ℕ, zero, suc, ℤ, pos, negsuc, List, [], ◌∷◌, Bool, true, false, ◌&&◌, length, map, take, get_or, refl, sym, ap, ap₂, subst, arith, Some, None, option_map, inl, inr}
use Rattle.std.specs.Int.{w64}
use Rattle.std.specs.List.{AllByRecursion}
use Rattle.std.proofs.lemmas.Int.{to_z_pos}
use Rattle.std.proofs.lemmas.List.{length-map, map_more, map_push, get_or-map}
use Rattle.wire_forms.specs.IsOf.{IsLong}
use Rattle.commands.specs.Numbers.{IsNumberWord, number_of, is_number}
use Rattle.commands.specs.Requests.{IsChannelWord, AreChannels, channel_range}
use Rattle.commands.specs.CommandLine.{are_channels, channel_of, channels_of}
use Rattle.commands.proofs.Decided.{Decided, decided_and}
use Rattle.commands.proofs.NumberWords.{both, both_true, is_number_word, number_decided}

abbrev Text : Type 0
Text = List ℕ

-- ---- the relation and the function of them

pub channels_are : (ws : List Text) (ids : List ℤ) → AreChannels ws ids → map channel_of ws ≡ ids
channels_are [] [] h = refl
channels_are [] (id ∷ ids) h = absurd h
channels_are (w ∷ ws) [] h = absurd h
channels_are (w ∷ ws) (pos id ∷ ids) h = ap₂ (λ (x : ℤ) (xs : List ℤ). x ∷ xs) (ap pos (sym h.0.value)) (channels_are ws ids h.1)
channels_are (w ∷ ws) (negsuc k ∷ ids) h = absurd h.0

-- an id that is a word has 64 bits
long_id : (w : Text) (id : ℤ) → IsChannelWord w id → IsLong id
long_id w (pos n) h = (n, omega (arith, h.most), sym (to_z_pos w64 n (omega (arith, h.most))))
long_id w (negsuc k) h = absurd h

pub are_long : (ws : List Text) (ids : List ℤ) → AreChannels ws ids → AllByRecursion IsLong ids
are_long [] [] h = tt
are_long [] (id ∷ ids) h = absurd h
are_long (w ∷ ws) [] h = absurd h
are_long (w ∷ ws) (id ∷ ids) h = (long_id w id h.0, are_long ws ids h.1)

pub all_channels : (ws : List Text) (ids : List ℤ) → AreChannels ws ids → are_channels ws ≡ true
all_channels [] ids h = refl
all_channels (w ∷ ws) [] h = absurd h
all_channels (w ∷ ws) (pos id ∷ ids) h =
    both_true _ _ ((is_number_word channel_range w).1 (subst (IsNumberWord channel_range w) h.0.value h.0)) (all_channels ws ids h.1)
all_channels (w ∷ ws) (negsuc k ∷ ids) h = absurd h.0

pub channels_there : (ws : List Text) → are_channels ws ≡ true → AreChannels ws (map channel_of ws)
channels_there [] e = tt
channels_there (w ∷ ws) e = let parts = both _ _ e in ((is_number_word channel_range w).0 parts.0, channels_there ws parts.1)

-- ---- decided

channel_decided : (w : Text) (id : ℤ) → Decided (IsChannelWord w id)
channel_decided w (pos id) = number_decided channel_range w id
channel_decided w (negsuc k) = inr (λ h. h)

pub channels_decided : (ws : List Text) (ids : List ℤ) → Decided (AreChannels ws ids)
channels_decided [] [] = inl tt
channels_decided [] (id ∷ ids) = inr (λ h. h)
channels_decided (w ∷ ws) [] = inr (λ h. h)
channels_decided (w ∷ ws) (id ∷ ids) = decided_and (channel_decided w id) (channels_decided ws ids)

-- ---- word by word

-- the channel that a word was found to be, or none
pub found_channel : (w : Text) (id : ℤ) (b : Bool) → is_number channel_range w ≡ b → Some id ≡ option_map pos (number_of channel_range w) → (is_number channel_range w ≡ true) × (id ≡ channel_of w)
found_channel w id true is found = let given : Some id ≡ Some (channel_of w) = found ∙ rw is refl in (is, cc)
found_channel w id false is found = let none : Some id ≡ None = found ∙ rw is refl in absurd cc

pub found_none : (w : Text) (b : Bool) → is_number channel_range w ≡ b → None ≡ option_map pos (number_of channel_range w) → is_number channel_range w ≡ false
found_none w true is found = let some : None ≡ Some (channel_of w) = found ∙ rw is refl in absurd cc
found_none w false is found = is

pub one_more_channel : (ws : List Text) (w : Text) → are_channels ws ≡ true → is_number channel_range w ≡ true → are_channels (ws ++ w ∷ []) ≡ true
one_more_channel [] w e is = both_true _ _ is refl
one_more_channel (v ∷ ws) w e is = let parts = both _ _ e in both_true _ _ parts.0 (one_more_channel ws w parts.1 is)

and_false : (b : Bool) → (b && false) ≡ false
and_false true = refl
and_false false = refl

-- a word that is no channel
pub no_channels : (ws : List Text) (i : ℕ) (d : Text) → i < length ws → is_number channel_range (get_or ws i d) ≡ false → are_channels ws ≡ false
no_channels [] i d lt is = absurd (omega arith)
no_channels (w ∷ ws) zero d lt is = rw is refl
no_channels (w ∷ ws) (suc i) d lt is = rw (no_channels ws i d (omega arith) is) (and_false (is_number channel_range w))

channels_none : (ws : List Text) → are_channels ws ≡ false → channels_of ws ≡ None
channels_none ws e = rw e refl

-- the word at i
module _ {A : Type 0} (f : A → Text) (xs : List A) (i : ℕ) (d : A) (lt : i < length xs) where
  pub more_channels : (ids new : List ℤ) (id : ℤ) → Some id ≡ option_map pos (number_of channel_range (f (get_or xs i d)))
      → (are_channels (map f (take i xs)) ≡ true) × (ids ≡ map channel_of (map f (take i xs))) → new ≡ ids ++ id ∷ []
      → (are_channels (map f (take (i + 1) xs)) ≡ true) × (new ≡ map channel_of (map f (take (i + 1) xs)))
  more_channels ids new id found (each, are) pushed =
      let w = f (get_or xs i d) in
      let one = found_channel w id (is_number channel_range w) refl found in
      let words : map f (take (i + 1) xs) ≡ map f (take i xs) ++ w ∷ [] = map_more f xs i d lt in (
        ap are_channels words ∙ one_more_channel (map f (take i xs)) w each one.0,
        pushed ∙ ap₂ (λ (x : List ℤ) (y : ℤ). x ++ y ∷ []) are one.1 ∙ sym (map_push channel_of (map f (take i xs)) w) ∙ ap (map channel_of) (sym words),
      )

  pub never_channels : None ≡ option_map pos (number_of channel_range (f (get_or xs i d))) → None ≡ channels_of (map f xs)
  never_channels none =
      let w = f (get_or xs i d) in
      sym (channels_none (map f xs) (no_channels (map f xs) i (f d) (subst (λ (n : ℕ). i < n) (sym (length-map xs f)) lt)
      (ap (is_number channel_range) (get_or-map f xs i d (f d) lt) ∙ found_none w (is_number channel_range w) refl none)))
