-- The view of each value; the shape of each type is `tl_schema`'s.
use Rattle.std.proofs.Common.{◌≡◌, ℕ, ℤ, List, Bool, map, ap, ◌∙◌, rules, Vec, Global}
pub use Rattle.tl_schema.proofs.Views.{shape-Bare, shape-Boxed, shape-Call, shape-Double, shape-Flag, shape-Int, shape-Int128, shape-Int256, shape-Long, shape-Nat, shape-Raw, shape-Str, shape-Var, shape-Vector}
use Rattle.tl_types.specs.Seen.{view}
use Rattle.tl_types.specs.Values as value
use Rattle.tl_types.specs.Values.{values_of}
use Rattle.tl_types.specs.declared.value.Value as own
use Rattle.tl_types.specs.declared.value.Value.{Value}

pub view-Int : (z w : ℤ) → z ≡ w → view (own.Int z) ≡ value.int w
view-Int z w e = ap (λ (x : ℤ). view (own.Int x)) e ∙ search (rules, own.the_lemmas)

pub view-Long : (z w : ℤ) → z ≡ w → view (own.Long z) ≡ value.long w
view-Long z w e = ap (λ (x : ℤ). view (own.Long x)) e ∙ search (rules, own.the_lemmas)

pub view-Nat : (z w : ℕ) → z ≡ w → view (own.Nat z) ≡ value.nat w
view-Nat z w e = ap (λ (x : ℕ). view (own.Nat x)) e ∙ search (rules, own.the_lemmas)

pub view-Opaque : (s : List ℕ) → view (own.Opaque s) ≡ value.opaque s
view-Opaque s = search (rules, own.the_lemmas)

pub view-Text : (s : List ℕ) → view (own.Text s) ≡ value.text s
view-Text s = search (rules, own.the_lemmas)

pub view-Truth : view own.Truth ≡ value.truth
view-Truth = search (rules, own.the_lemmas)

pub view-Absent : view own.Absent ≡ value.absent
view-Absent = search (rules, own.the_lemmas)

pub view-List : (vs : Vec Value Global) → view (own.List vs) ≡ value.list (values_of (map view vs.items))
view-List vs = search (rules, own.the_lemmas)

pub view-Node : (i : ℕ) (vs : Vec Value Global) → view (own.Node i vs) ≡ value.node i (values_of (map view vs.items))
view-Node i vs = search (rules, own.the_lemmas)

pub view-Call : (i : ℕ) (vs : Vec Value Global) → view (own.Call i vs) ≡ value.call i (values_of (map view vs.items))
view-Call i vs = search (rules, own.the_lemmas)
