-- There is one first break at most, and none where nothing breaks.
use Rattle.std.proofs.Common.{◌≡◌, inl, inr, ℕ, Some, refl, ap, sym, ◌∙◌, subst, slice_get, arith}
use Rattle.std.proofs.lemmas.Bool.{cases_order}
use Rattle.std.proofs.lemmas.Option.{same_Some}
use Rattle.tl_graph.specs.Firsts.{First}
use Rattle.tl_schema.specs.Schemas.{Declaration, Declared}
use Rattle.tl_schema.specs.Types.{Shape}
use Rattle.tl_names.proofs.Firsts.{one_first}
use Rattle.tl_layers.specs.Breaks.{ArePair, OfPair, HasBreak, IsUnbroken, Breaks, rank, LacksField, IsBefore, IsChanged, IsAdded}
use Rattle.tl_layers.specs.declared.fault.Break.{Break}
use Rattle.tl_layers.specs.declared.fault.Break.TheVariants.{Gone, NewNumber, NewVars, TypeSplit, FieldGone, FieldOrder, FieldChanged, FieldAdded}

module _ (old new : Declared) where
  -- a declaration and its counterpart are two
  pub same_pair : (i : ℕ) (d e d2 e2 : Declaration) → ArePair old new i d e → ArePair old new i d2 e2 → (d ≡ d2) × (e ≡ e2)
  same_pair i d e d2 e2 p q = (same_Some d d2 (sym p.here ∙ q.here), same_Some e e2 (sym p.there ∙ ap (slice_get new.decls) (same_Some p.j q.j (sym p.counterpart ∙ q.counterpart)) ∙ q.there))

module _ (old new : Declared) (T : Shape) where
  pub never_both : (i : ℕ) (cause : Break) → IsUnbroken old new T → Breaks old new T i cause → ⊥
  never_both i cause unbroken b = unbroken i cause b.reached b.has

  same_rank : (i j : ℕ) (c d : Break) → Breaks old new T i c → Breaks old new T j d → rank c ≡ rank d
  same_rank i j c d b e = elim (cases_order (rank c) (rank d)) [
    | inl same ↦ same
    | inr (inl less) ↦ absurd (e.first_cause i c b.reached b.has less)
    | inr (inr more) ↦ absurd (b.first_cause j d e.reached e.has more)
  ]

  same_decl : (i j : ℕ) (c d : Break) → Breaks old new T i c → Breaks old new T j d → i ≡ j
  same_decl i j c d b e = let same = same_rank i j c d b e in elim (cases_order i j) [
    | inl is ↦ is
    | inr (inl less) ↦ absurd (e.first i c b.reached b.has same less)
    | inr (inr more) ↦ absurd (b.first j d e.reached e.has (sym same) more)
  ]

  one_field : (P : Declaration → Declaration → ℕ → Type 0) (i k l : ℕ) → OfPair old new i (λ d e. First (P d e) (Some k)) → OfPair old new i (λ d e. First (P d e) (Some l)) → k ≡ l
  one_field P i k l (d, e, p, f) (d2, e2, q, g) =
      let same = same_pair old new i d e d2 e2 p q in
      let here : First (P d2 e2) (Some k) = subst (λ x. First (P x e2) (Some k)) same.0 (subst (λ y. First (P d y) (Some k)) same.1 f) in
      same_Some k l (one_first (P d2 e2) (Some k) (Some l) here g)

  same_cause : (i : ℕ) (c d : Break) → HasBreak old new i c → HasBreak old new i d → rank c ≡ rank d → c ≡ d
  same_cause i Gone Gone h g e = refl
  same_cause i NewNumber NewNumber h g e = refl
  same_cause i NewVars NewVars h g e = refl
  same_cause i TypeSplit TypeSplit h g e = refl
  same_cause i (FieldGone k) (FieldGone l) h g e = ap FieldGone (one_field (λ d x. LacksField d.fields x.fields) i k l h g)
  same_cause i (FieldOrder k) (FieldOrder l) h g e = ap FieldOrder (one_field (λ d x. IsBefore d.fields x.fields) i k l h g)
  same_cause i (FieldChanged k) (FieldChanged l) h g e = ap FieldChanged (one_field (λ d x. IsChanged old new d.fields x.fields) i k l h g)
  same_cause i (FieldAdded k) (FieldAdded l) h g e = ap FieldAdded (one_field (λ d x. IsAdded d.fields x.fields) i k l h g)
  same_cause i c d h g e = absurd (omega (arith, e))

  pub one_break : (i j : ℕ) (c d : Break) → Breaks old new T i c → Breaks old new T j d → (i ≡ j) × (c ≡ d)
  one_break i j c d b e =
      let one = same_decl i j c d b e in
      (one, same_cause j c d (subst (λ n. HasBreak old new n c) one b.has) e.has (same_rank i j c d b e))
