-- Calls that carry a request, and their values.
use Rattle.std.specs.Prelude.{⊤, ◌==◌, ◌||◌, ◌⊎◌}
use Rattle.std.proofs.Common.{◌≡◌, ℕ, ◌≤◌, List, [], ◌∷◌, None, Bool, true, false, refl, sym, subst, arith, inl, inr, eqb-true, Result}
use Rattle.std.proofs.Math.Nat.{max-le}
use Rattle.tl_types.specs.Values.{ValueView, call, ValueViews, no_values, value, depth, depth_of}
use Rattle.tl_types.specs.declared.value.Value.{Value}
use Rattle.tl_types.specs.declared.value.TheConstants.{MAX_LEVELS}
use Rattle.tl_schema.specs.Types as type
use Rattle.tl_schema.specs.Schemas.{Declared}
use Rattle.wire_profile.specs.declared.wire_fault.WireFault.{WireFault}
use Rattle.tl_base.specs.declared.fault.Fault.{Fault}
use Rattle.box_wire.specs.inner.Wholes.{ReadsValue}
use Rattle.wire_forms.specs.declared.form.Cell.{Cell}
use Rattle.wire_forms.specs.declared.form.Cell.TheVariants.{Whole, Query}
use Rattle.wire_forms.specs.Forms.{forms, cells_of, is_function, is_request}
use Rattle.wire_forms.specs.Parts.{first, at, parts_of, entry_of}
use Rattle.wire_forms.specs.IsOf.{IsOf, AreOf}
use Rattle.wire_forms.specs.declared.numbers.TheConstants.{GET_STATE, GET_DIFFERENCE, GET_CHANNEL_DIFFERENCE, INVOKE, POST}
use Rattle.wire_profile.specs.SpelledForms.{IsServed, AreServed}
use Rattle.wire_values.specs.Calls.{call_tree, call_in}
use Rattle.wire_values.specs.Calls as values
use Rattle.wire_values.proofs.CallsAndValues.{call_same, call_back}
use Rattle.wire_profile.specs.Causes.{call_cause}
use Rattle.wire_profile.proofs.RuleFacts.{served_is, both_true, either_true, same, clear_of_call}
use Rattle.box_wire.specs.Kinds.{calls}
use Rattle.box_wire.proofs.Exactly.{KindLaws}
use Rattle.box_wire.proofs.Levels.{are_under, fields_levels, few_levels}

-- ---- the functions that a server answers

-- it is one of the four
abbrev IsAsked : ℕ → Type 0
IsAsked k = (k ≡ GET_STATE) ⊎ ((k ≡ GET_DIFFERENCE) ⊎ ((k ≡ GET_CHANNEL_DIFFERENCE) ⊎ (k ≡ POST)))

asked : (k : ℕ) → is_request k ≡ true → IsAsked k
asked k e = elim (either_true (k == GET_STATE) ((k == GET_DIFFERENCE) || ((k == GET_CHANNEL_DIFFERENCE) || (k == POST))) e) [
  | inl a ↦ inl (eqb-true _ _ a)
  | inr b ↦ elim (either_true (k == GET_DIFFERENCE) ((k == GET_CHANNEL_DIFFERENCE) || (k == POST)) b) [
    | inl a ↦ inr (inl (eqb-true _ _ a))
    | inr d ↦ elim (either_true (k == GET_CHANNEL_DIFFERENCE) (k == POST) d) [
      | inl a ↦ inr (inr (inl (eqb-true _ _ a)))
      | inr f ↦ inr (inr (inr (eqb-true _ _ f)))
    ]
  ]
]

by_asked : (P : ℕ → Type 0) → P GET_STATE → P GET_DIFFERENCE → P GET_CHANNEL_DIFFERENCE → P POST → (k : ℕ) → IsAsked k → P k
by_asked P a b c d k (inl is) = subst P (sym is) a
by_asked P a b c d k (inr (inl is)) = subst P (sym is) b
by_asked P a b c d k (inr (inr (inl is))) = subst P (sym is) c
by_asked P a b c d k (inr (inr (inr is))) = subst P (sym is) d

abbrev no_queries : List Cell → Bool
no_queries [] = true
no_queries (Query ∷ cs) = false
no_queries (c ∷ cs) = no_queries cs

-- such a function has no query, and fields of at most three levels
record IsPlainFunction (k : ℕ) : Type 0 where
  function : is_function k ≡ true
  plain : no_queries (cells_of k) ≡ true
  under : are_under 4 (cells_of k) ≡ true

state_plain : IsPlainFunction GET_STATE
unfolding forms
state_plain = record { function = refl; plain = refl; under = refl }

difference_plain : IsPlainFunction GET_DIFFERENCE
unfolding forms
difference_plain = record { function = refl; plain = refl; under = refl }

channel_plain : IsPlainFunction GET_CHANNEL_DIFFERENCE
unfolding forms
channel_plain = record { function = refl; plain = refl; under = refl }

post_plain : IsPlainFunction POST
unfolding forms
post_plain = record { function = refl; plain = refl; under = refl }

plain_function : (k : ℕ) → is_request k ≡ true → IsPlainFunction k
plain_function k e = by_asked IsPlainFunction state_plain difference_plain channel_plain post_plain k (asked k e)

invoke_is : is_function INVOKE ≡ true
unfolding forms
invoke_is = refl

invoke_cells : cells_of INVOKE ≡ Whole ∷ Query ∷ []
unfolding forms
invoke_cells = refl

-- ---- served calls

cell_served : (c : Cell) (cs : List Cell) → no_queries (c ∷ cs) ≡ true → (v : ValueView) → IsServed c v × (no_queries cs ≡ true)
cell_served Query cs e v = absurd cc
cell_served Whole cs e v = (tt, e)
cell_served c cs e v = (tt, e)

plain_served : (cs : List Cell) → no_queries cs ≡ true → (vs : ValueViews) → AreServed cs vs
plain_served [] e vs = tt
plain_served (c ∷ cs) e no_values = tt
plain_served (c ∷ cs) e (value v vs) = let s = cell_served c cs e v in (s.0, plain_served cs s.1 vs)

query_served : (v : ValueView) → is_request (entry_of v) ≡ true → IsServed Query v
query_served (call k vs) e = let f = plain_function k e in (f.function, plain_served (cells_of k) f.plain vs)
query_served v e = tt

invoke_served : (vs : ValueViews) → is_request (entry_of (at 1 vs)) ≡ true → AreServed (Whole ∷ Query ∷ []) vs
invoke_served no_values e = tt
invoke_served (value a no_values) e = (tt, tt)
invoke_served (value a (value b vs)) e = (tt, (query_served b e, tt))

call_served : (t : ValueView) → call_cause t ≡ None → IsServed Query t
call_served (call k vs) e =
    let s = served_is (call k vs) (clear_of_call (call k vs) e).0 in
    (subst (λ (n : ℕ). is_function n ≡ true) (sym s.0) invoke_is, subst (λ (n : ℕ). AreServed (cells_of n) vs) (sym s.0) (subst (λ (cs : List Cell). AreServed cs vs) (sym invoke_cells) (invoke_served vs s.1)))
call_served t e = tt

request_in : (t : ValueView) → call_cause t ≡ None → values.is_served t ≡ true
request_in t e =
    let s = served_is t (clear_of_call t e).0 in
    both_true (entry_of t == INVOKE) (is_request (entry_of (at 1 (parts_of t)))) (same _ _ s.0) s.1

pub call_laws : KindLaws calls call_tree call_in (λ _. ⊤)
call_laws = record {
  alone = tt;
  served = call_served;
  same = λ t is c. call_same t is (request_in t c);
  back = λ m is. call_back m;
  read = λ t is c. tt;
}

-- ---- levels

query_levels : (v : ValueView) → is_request (entry_of v) ≡ true → IsOf Query v → depth v ≤ 4
query_levels (call k vs) e is = fields_levels vs (first vs) (cells_of k) 4 (plain_function k e).under is.1
query_levels v e is = absurd is

invoke_levels : (vs : ValueViews) → is_request (entry_of (at 1 vs)) ≡ true → AreOf (first vs) (Whole ∷ Query ∷ []) vs → depth_of vs ≤ 4
invoke_levels no_values e is = absurd is
invoke_levels (value a no_values) e is = absurd is.1
invoke_levels (value a (value b no_values)) e is =
    let none = few_levels a Whole refl is.0 in
    max-le (omega (arith, none)) (max-le (query_levels b e is.1.0) (omega arith))
invoke_levels (value a (value b (value d vs))) e is = absurd is.1.1

pub call_levels : (t : ValueView) → IsOf Query t → call_cause t ≡ None → depth t ≤ MAX_LEVELS
call_levels (call k vs) is e =
    let s = served_is (call k vs) (clear_of_call (call k vs) e).0 in
    let of = subst (λ (cs : List Cell). AreOf (first vs) cs vs) invoke_cells (subst (λ (n : ℕ). AreOf (first vs) (cells_of n) vs) s.0 is.1) in
    let few = invoke_levels vs s.1 of in
    omega (arith, few)
call_levels t is e = absurd is

-- ---- the schema of a profile

pub whole_call : (R S : Declared) (bytes : List ℕ) → R ≡ S → (r : Result Value (Fault WireFault)) → ReadsValue R type.call bytes r → ReadsValue S type.call bytes r
whole_call R S bytes same r is = subst (λ (U : Declared). ReadsValue U type.call bytes r) same is
