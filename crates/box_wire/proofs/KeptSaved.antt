-- A message keeps all of a saved client's value that breaks no rule of saved clients.
use Rattle.std.specs.Prelude.{IsTrue, slice_get, nat_le, not}
use Rattle.std.proofs.Common.{◌≡◌, ℕ, zero, suc, List, [], ◌∷◌, map, Option, Some, None, Bool, true, false, ◌&&◌, ◌||◌, refl, sym, ◌∙◌, subst}
use Rattle.tl_types.specs.Values.{ValueView, int, long, nat, opaque, text, truth, absent, list, node, call, ValueViews, no_values, value}
use Rattle.wire_forms.specs.declared.form.Cell.{Cell}
use Rattle.wire_forms.specs.declared.form.Cell.TheVariants.{Whole, Signed, Long, Body, Key, Ids, Bodies, Flags, Final, Many, One, Bare, ManyBare, Query}
use Rattle.wire_forms.specs.declared.numbers.TheConstants.{DIFFERENCE, DIFFERENCE_SLICE, CHANNEL_DIFFERENCE, EVENT_TYPE}
use Rattle.wire_forms.specs.Forms.{FormView, forms, cells_of, constructs}
use Rattle.wire_forms.specs.Parts.{first, flag, is_final}
use Rattle.wire_forms.specs.IsOf.{IsField, IsOf, EachOf, AreOf}
use Rattle.wire_profile.proofs.FormTable.{member_form, cells_are, some_is, clash}
use Rattle.wire_values.specs.Kept.{AllKept, EachKept}
use Rattle.wire_profile.specs.Clear.{IsClear, AreClear}
use Rattle.wire_profile.specs.declared.rule.Rule.TheVariants.{Count}
use Rattle.wire_profile.specs.declared.rule.Root.TheVariants.{Saved}
use Rattle.wire_profile.proofs.ClearValues.{clear_here, clear_fields, clear_first, clear_rest}
use Rattle.wire_profile.proofs.RuleFacts.{left_true, right_true}
use Rattle.box_wire.proofs.KeptValues.{record_kept}

-- ---- what is saved

-- types from that of events on
abbrev saved_type : Option ℕ → Bool
saved_type None = false
saved_type (Some h) = nat_le EVENT_TYPE h

abbrev saved_in : Option FormView → Bool
saved_in None = false
saved_in (Some f) = not f.function && saved_type f.result

abbrev pub is_saved : Cell → Bool
is_saved Query = false
is_saved (Many h) = nat_le EVENT_TYPE h
is_saved (One h) = nat_le EVENT_TYPE h
is_saved (Bare j) = saved_in (slice_get forms j)
is_saved (ManyBare j) = saved_in (slice_get forms j)
is_saved c = true

abbrev are_saved : List Cell → Bool
are_saved [] = true
are_saved (c ∷ cs) = is_saved c && are_saved cs

-- a constructor of such a type has such fields
abbrev passes : FormView → Bool
passes f = not (saved_in (Some f)) || are_saved (map (λ part. part.cell) f.parts)

abbrev all_pass : List FormView → Bool
all_pass [] = true
all_pass (f ∷ fs) = passes f && all_pass fs

forms_pass : all_pass forms ≡ true
unfolding forms
forms_pass = refl

pass_at : (fs : List FormView) → all_pass fs ≡ true → (k : ℕ) (f : FormView) → slice_get fs k ≡ Some f → passes f ≡ true
pass_at [] all k f there = absurd cc
pass_at (g ∷ fs) all zero f there = subst (λ (h : FormView). passes h ≡ true) (some_is g f there) (left_true (passes g) (all_pass fs) all)
pass_at (g ∷ fs) all (suc k) f there = pass_at fs (right_true (passes g) (all_pass fs) all) k f there

cells_by : (k : ℕ) (o : Option FormView) → slice_get forms k ≡ o → saved_in o ≡ true → are_saved (cells_of k) ≡ true
cells_by k None at saved = absurd (clash saved)
cells_by k (Some f) at saved =
    let all = subst (λ (b : Bool). (not b || are_saved (map (λ part. part.cell) f.parts)) ≡ true) saved (pass_at forms forms_pass k f at) in
    subst (λ (cs : List Cell). are_saved cs ≡ true) (sym (cells_are k f at)) all

one_saved : (h k : ℕ) → nat_le EVENT_TYPE h ≡ true → IsTrue (constructs h k) → saved_in (slice_get forms k) ≡ true
one_saved h k saved is =
    let f = member_form h k is in
    subst (λ (o : Option FormView). saved_in o ≡ true) (sym f.1.there)
    (subst (λ (b : Bool). (not b && saved_type (f.0).result) ≡ true) (sym f.1.function) (subst (λ (o : Option ℕ). saved_type o ≡ true) (sym f.1.result) saved))

difference_is : saved_in (slice_get forms DIFFERENCE) ≡ false
unfolding forms
difference_is = refl

slice_is : saved_in (slice_get forms DIFFERENCE_SLICE) ≡ false
unfolding forms
slice_is = refl

channel_is : saved_in (slice_get forms CHANNEL_DIFFERENCE) ≡ false
unfolding forms
channel_is = refl

other_form : (k n : ℕ) → saved_in (slice_get forms n) ≡ false → saved_in (slice_get forms k) ≡ true → k ≡ n → ⊥
other_form k n none saved is = clash (sym none ∙ subst (λ (j : ℕ). saved_in (slice_get forms j) ≡ true) is saved)

flag_kept : (b : Bool) (v : ValueView) → v ≡ flag b → AllKept v
flag_kept true v is = subst AllKept (sym is) tt
flag_kept false v is = subst AllKept (sym is) tt

field_kept : (flags : ValueView) (c : Cell) (v : ValueView) → (IsOf c v → AllKept v) → IsField flags c v (IsOf c v) → AllKept v
field_kept flags Final v law is = flag_kept (is_final flags) v is
field_kept flags Whole v law is = law is
field_kept flags Signed v law is = law is
field_kept flags Long v law is = law is
field_kept flags Body v law is = law is
field_kept flags Key v law is = law is
field_kept flags Ids v law is = law is
field_kept flags Bodies v law is = law is
field_kept flags Flags v law is = law is
field_kept flags (Many h) v law is = law is
field_kept flags (One h) v law is = law is
field_kept flags (Bare j) v law is = law is
field_kept flags (ManyBare j) v law is = law is
field_kept flags Query v law is = law is

node_kept : (vs : ValueViews) (k : ℕ) → saved_in (slice_get forms k) ≡ true → IsClear Saved (node k vs) → EachKept vs → AllKept (node k vs)
node_kept vs k saved clear kept = (
  record_kept k vs (clear_here Saved k vs clear Count refl) (λ is. absurd (other_form k DIFFERENCE difference_is saved is)) (λ is. absurd (other_form k DIFFERENCE_SLICE slice_is saved is)) (λ is. absurd (other_form k CHANNEL_DIFFERENCE channel_is saved is)),
  kept,
)

mutual
  pub saved_kept : (t : ValueView) (c : Cell) → is_saved c ≡ true → IsOf c t → IsClear Saved t → AllKept t
  saved_kept (int z) c saved is clear = tt
  saved_kept (long z) c saved is clear = tt
  saved_kept (nat n) c saved is clear = tt
  saved_kept (opaque x) c saved is clear = tt
  saved_kept (text x) c saved is clear = tt
  saved_kept truth c saved is clear = tt
  saved_kept absent c saved is clear = tt
  saved_kept (list vs) Ids saved is clear = each_saved vs Signed refl is.1 clear
  saved_kept (list vs) Bodies saved is clear = each_saved vs Body refl is.1 clear
  saved_kept (list vs) (Many h) saved is clear = each_saved vs (One h) saved is.1 clear
  saved_kept (list vs) (ManyBare j) saved is clear = each_saved vs (Bare j) saved is.1 clear
  saved_kept (node k vs) (One h) saved is clear =
      let here = one_saved h k saved is.0 in
      node_kept vs k here clear (fields_saved vs (first vs) (cells_of k) (cells_by k (slice_get forms k) refl here) is.1 (clear_fields Saved k vs clear))
  saved_kept (node k vs) (Bare j) saved is clear =
      let here = subst (λ (n : ℕ). saved_in (slice_get forms n) ≡ true) (sym is.0) saved in
      node_kept vs k here clear (fields_saved vs (first vs) (cells_of k) (cells_by k (slice_get forms k) refl here) (subst (λ (n : ℕ). AreOf (first vs) (cells_of n) vs) (sym is.0) is.1) (clear_fields Saved k vs clear))
  saved_kept (call k vs) Query saved is clear = absurd (clash saved)
  saved_kept t c saved is clear = absurd is

  each_saved : (vs : ValueViews) (c : Cell) → is_saved c ≡ true → EachOf c vs → AreClear Saved vs → EachKept vs
  each_saved no_values c saved is clear = tt
  each_saved (value v vs) c saved is clear = (saved_kept v c saved is.0 (clear_first Saved (value v vs) clear), each_saved vs c saved is.1 (clear_rest Saved (value v vs) clear))

  fields_saved : (vs : ValueViews) (flags : ValueView) (cs : List Cell) → are_saved cs ≡ true → AreOf flags cs vs → AreClear Saved vs → EachKept vs
  fields_saved no_values flags cs saved is clear = tt
  fields_saved (value v vs) flags [] saved is clear = absurd is
  fields_saved (value v vs) flags (c ∷ cs) saved is clear = (
    field_kept flags c v (λ of. saved_kept v c (left_true (is_saved c) (are_saved cs) saved) of (clear_first Saved (value v vs) clear)) is.0,
    fields_saved vs flags cs (right_true (is_saved c) (are_saved cs) saved) is.1 (clear_rest Saved (value v vs) clear),
  )
