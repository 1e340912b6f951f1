-- A program that passes the checks is one schema.
use Rattle.std.proofs.Common.{◌≡◌, inl, inr, ℕ, suc, ◌<◌, ◌^◌, Bool, true, false, List, [], ◌∷◌, length, map, slice_get, Option, Some, None, All, bytes_eq, codes, refl, sym, ap, ap₂, ◌∙◌, subst, arith}
use Rattle.std.specs.Option.{option_map}
use Rattle.std.proofs.lemmas.Bool.{cases_Bool}
use Rattle.std.proofs.lemmas.List.{length-map}
use Rattle.std.proofs.lemmas.Option.{none-some, same_Some, slice_get-map, slice_get_within, get_or_from_slice_get}
use Rattle.std.proofs.lemmas.List.Elements.{All-get_or}
use Rattle.tl_program.specs.Program.{DeclText}
use Rattle.tl_combinators.proofs.WrittenNumbers.{IsSmall as IsSmallNumber}
use Rattle.tl_names.specs.Writing.{At}
use Rattle.tl_schema.specs.Numbers.{IsWrittenOrCrc}
use Rattle.tl_schema.specs.Schemas.{Declaration, Declared}
use Rattle.tl_schema.specs.Meanings.{IsEntry, IsNumberWhere, IsSmall, declaration_of, line_number}
use Rattle.tl_schema.specs.CheckCauses.{Passes}
use Rattle.tl_schema.specs.CheckedPrograms.{IsSchema}
use Rattle.tl_schema.proofs.SameNumberFirst.{some_number, one_number}

-- ---- entries are determined

-- lists whose elements stand to those of a third as R says are one, where R gives one element each
module _ {X Y : Type 0} (R : X → Y → Type 0) where
  abbrev Stand : List X → List Y → Type 0
  Stand xs ys = (k : ℕ) (x : X) (y : Y) → slice_get xs k ≡ Some x → slice_get ys k ≡ Some y → R x y

  same_items : ((x : X) (y z : Y) → R x y → R x z → y ≡ z) → (xs : List X) (ys zs : List Y) → length ys ≡ length xs → length zs ≡ length xs → Stand xs ys → Stand xs zs → ys ≡ zs
  same_items one [] [] [] e f p q = refl
  same_items one [] (y ∷ ys) zs e f p q = absurd (omega (arith, e))
  same_items one [] [] (z ∷ zs) e f p q = absurd (omega (arith, f))
  same_items one (x ∷ xs) [] zs e f p q = absurd (omega (arith, e))
  same_items one (x ∷ xs) (y ∷ ys) [] e f p q = absurd (omega (arith, f))
  same_items one (x ∷ xs) (y ∷ ys) (z ∷ zs) e f p q =
      ap₂ (λ (v : Y) (vs : List Y). v ∷ vs) (one x y z (p 0 x y refl refl) (q 0 x z refl refl))
      (same_items one xs ys zs (omega (arith, e)) (omega (arith, f)) (λ k. p (suc k)) (λ k. q (suc k)))

one_number_where : (b : Bool) (d : DeclText) (m n : ℕ) → IsNumberWhere b d m → IsNumberWhere b d n → m ≡ n
one_number_where true d m n e f = e ∙ sym f
one_number_where false d m n e f = one_number d.number d.text m n e f

pub one_entry : (ds : List DeclText) (d : DeclText) (e f : Declaration) → IsEntry ds d e → IsEntry ds d f → e ≡ f
one_entry ds d e f p q = p.1 ∙ ap (declaration_of ds d) (one_number_where d.builtin d e.number f.number p.0 q.0) ∙ sym q.1

-- the declarations are those of a program
record AreEntries (ds : List DeclText) (es : List Declaration) : Type 0 where
  count : length es ≡ length ds
  each : Stand (IsEntry ds) ds es

entries_of : (u : Declared) → IsSchema u → AreEntries u.program u.decls
entries_of u good = record { count = good.count; each = good.entries }

same_entries : (ds : List DeclText) (es fs : List Declaration) → AreEntries ds es → AreEntries ds fs → es ≡ fs
same_entries ds es fs p q = same_items (IsEntry ds) (one_entry ds) ds es fs p.count q.count p.each q.each

pub same_schema : (s u : Declared) → IsSchema s → IsSchema u → s.program ≡ u.program → s ≡ u
same_schema s u p q e =
    let decls = same_entries u.program s.decls u.decls (subst (λ (ds : List DeclText). AreEntries ds s.decls) e (entries_of s p)) (entries_of u q) in
    ap₂ (λ (ds : List DeclText) (es : List Declaration). record { program = ds; decls = es }) e decls

-- ---- there are entries

abbrev HasSmall : DeclText → Type 0
HasSmall d = IsSmallNumber d.number

line_fits : (name : List ℕ) → line_number name < 2 ^ 32
line_fits name = elim (cases_Bool (bytes_eq name (codes "vector"))) [ inl e ↦ rw e (omega arith) | inr e ↦ rw e (omega arith) ]

written_fits : (written : Option ℕ) (text : List ℕ) (n : ℕ) → IsSmallNumber written → IsWrittenOrCrc written text n → n < 2 ^ 32
written_fits (Some w) text n small is = subst (λ (m : ℕ). m < 2 ^ 32) (sym is) small
written_fits None text n small crc = crc.small

number_fits : (b : Bool) (d : DeclText) (n : ℕ) → HasSmall d → IsNumberWhere b d n → n < 2 ^ 32
number_fits true d n small is = subst (λ (m : ℕ). m < 2 ^ 32) (sym is) (line_fits d.name)
number_fits false d n small is = written_fits d.number d.text n small is

some_number_where : (b : Bool) (d : DeclText) → (n : ℕ) × IsNumberWhere b d n
some_number_where true d = (line_number d.name, refl)
some_number_where false d = some_number d.number d.text

module _ (ds : List DeclText) where
  abbrev entry : DeclText → Declaration
  entry d = declaration_of ds d (some_number_where d.builtin d).0

  abbrev Entries : List Declaration
  Entries = map entry ds

  entry_is : (d : DeclText) → IsEntry ds d (entry d)
  entry_is d = ((some_number_where d.builtin d).1, refl)

  -- the entry at an index is that of the declaration there
  entry_there : (k : ℕ) (e : Declaration) (o : Option DeclText) → slice_get ds k ≡ o → slice_get Entries k ≡ Some e → (d : DeclText) × At ds k d × (e ≡ entry d)
  entry_there k e None at there = absurd (none-some e (sym (slice_get-map entry ds k ∙ ap (option_map entry) at) ∙ there))
  entry_there k e (Some d) at there = (d, at, sym (same_Some (entry d) e (sym (slice_get-map entry ds k ∙ ap (option_map entry) at) ∙ there)))

  of_declaration : (k : ℕ) (d : DeclText) (e : Declaration) → At ds k d → slice_get Entries k ≡ Some e → IsEntry ds d e
  of_declaration k d e at there =
      let h = entry_there k e (slice_get ds k) refl there in
      subst (IsEntry ds d) (sym (h.2 ∙ ap entry (same_Some h.0 d (sym h.1 ∙ at)))) (entry_is d)

  small_there : (k : ℕ) (d : DeclText) → All HasSmall ds → At ds k d → HasSmall d
  small_there k d small at = subst HasSmall (get_or_from_slice_get ds k d d at) (All-get_or HasSmall ds k d (slice_get_within ds k d at) small)

  each_fits : All HasSmall ds → (k : ℕ) (e : Declaration) → slice_get Entries k ≡ Some e → e.number < 2 ^ 32
  each_fits small k e there =
      let h = entry_there k e (slice_get ds k) refl there in
      subst (λ (f : Declaration). f.number < 2 ^ 32) (sym h.2) (number_fits h.0.builtin h.0 _ (small_there k h.0 small h.1) (some_number_where h.0.builtin h.0).1)

  pub some_schema : IsSmall ds → Passes ds → All (λ d. IsSmallNumber d.number) ds → (s : Declared) × IsSchema s × (s.program ≡ ds)
  some_schema few passes small = (
    record { program = ds; decls = Entries },
    record {
      passes = passes;
      small = few;
      count = length-map ds entry;
      entries = of_declaration;
      fits = each_fits small;
    },
    refl,
  )
