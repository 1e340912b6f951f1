-- What `find` answers is the index of the namesake.
use Rattle.std.proofs.Common.{◌≡◌, ℕ, ◌≤◌, List, length, position, slice_get, Option, Some, None, refl, ap, sym, ◌∙◌, Bool, true, false, not, true≢false, bytes_eq, if◌then◌else◌, arith}
use Rattle.std.specs.Bool.{Decides}
use Rattle.std.proofs.lemmas.Option.{slice_get_within}
use Rattle.std.proofs.lemmas.Slice.Eq.{bytes_eq-Decides}
use Rattle.tl_names.proofs.Indexes.{HoldsAt, first_same}
use Rattle.tl_names.proofs.Positions.{first_position}
use Rattle.tl_names.proofs.Firsts.{one_first}
use Rattle.tl_schema.specs.CheckedPrograms.{Finds, HasName}
use Rattle.tl_schema.specs.Schemas.{Declaration, Declared}
use Rattle.tl_layers.specs.Counterparts.{is_namesake, if_own, namesake, counterpart}
use Rattle.tl_plan.proofs.SameTypes.{both, both_of}

-- e is a namesake of d
abbrev IsNamesake : Declaration → Declaration → Type 0
IsNamesake d e = (e.name ≡ d.name) × (e.function ≡ d.function)

same_kind : (b c : Bool) → (if b then c else not c) ≡ true → c ≡ b
same_kind true c e = e
same_kind false true e = absurd (true≢false (sym e))
same_kind false false e = refl

kind_same : (b c : Bool) → c ≡ b → (if b then c else not c) ≡ true
kind_same true c e = e
kind_same false true e = absurd (true≢false e)
kind_same false false e = refl

decides : (d e : Declaration) → Decides (is_namesake d e) (IsNamesake d e)
decides d e = (
  λ h. let b = both_of (bytes_eq d.name e.name) (if d.function then e.function else not e.function) h in (sym ((bytes_eq-Decides d.name e.name).0 b.0), same_kind d.function e.function b.1),
  λ n. both (bytes_eq d.name e.name) (if d.function then e.function else not e.function) ((bytes_eq-Decides d.name e.name).1 (sym n.0)) (kind_same d.function e.function n.1),
)

module _ (es : List Declaration) (d : Declaration) where
  as_index : (i : ℕ) → HasName es d.name d.function i → HoldsAt (IsNamesake d) es i
  as_index i h = record { x = h.0; there = h.1; has = (h.2, h.3) }

  from_index : (i : ℕ) → HoldsAt (IsNamesake d) es i → HasName es d.name d.function i
  from_index i p = (p.x, p.there, p.has.0, p.has.1)

  pub found_is : (o : Option ℕ) → Finds es d.name d.function o → o ≡ position (is_namesake d) es
  found_is o found =
      one_first (HoldsAt (IsNamesake d) es) o (position (is_namesake d) es) (first_same (HasName es d.name d.function) (HoldsAt (IsNamesake d) es) as_index from_index o found)
      (first_position (is_namesake d) (IsNamesake d) (decides d) es)

pub counterpart_found : (old new : Declared) (i : ℕ) (d : Declaration) (o : Option ℕ) → slice_get old.decls i ≡ Some d → Finds new.decls d.name d.function o → if_own new o ≡ counterpart old new i
counterpart_found old new i d o here found = ap (if_own new) (found_is new.decls d o found) ∙ sym (ap (namesake new) here)

-- past the last declaration there is none
pub counterpart_past : (old new : Declared) (i : ℕ) → length old.decls ≤ i → None ≡ counterpart old new i
counterpart_past old new i past = by (slice_get old.decls i) refl
  where
    by : (o : Option Declaration) → slice_get old.decls i ≡ o → None ≡ counterpart old new i
    by None e = sym (ap (namesake new) e)
    by (Some d) e = absurd (let within = slice_get_within old.decls i d e in omega (arith, past, within))
