-- Declarations and what they stand for in their program.
use Rattle.std.proofs.Common.{◌≡◌, ℕ, ◌<◌, Bool, not, ◌&&◌, List, map, length, get_or, ap, sym, subst, ◌∙◌, arith}
use Rattle.std.proofs.lemmas.List.{length-map}
use Rattle.std.proofs.lemmas.Option.{same_Some, slice_get_within}
use Rattle.tl_program.specs.Program.{DeclText}
use Rattle.tl_program.specs.declared.program.Decl.{Decl}
use Rattle.tl_program.specs.Program.{decl_text}
use Rattle.tl_names.specs.Writing.{At, is_constructor}
use Rattle.tl_names.specs.MeantDecls.{MeantDeclView, meant_decl}
use Rattle.tl_names.specs.MeantViews.{decl_view}
use Rattle.tl_names.specs.declared.meant.MeantDecl.{MeantDecl}
use Rattle.tl_names.specs.inner.Resolved.{AreResolved}
use Rattle.tl_names.proofs.Maps.{slice_get_item}
use Rattle.tl_names.proofs.ForTypes.{item_for}

module _ (ds : List DeclText) (ms : List MeantDecl) (resolved : AreResolved ds (map decl_view ms)) where
  pub as_many : length ms ≡ length ds
  as_many = sym (length-map ms decl_view) ∙ ap length resolved ∙ length-map ds (meant_decl ds)

  -- declaration k is the one that is written there
  pub resolved_at : (k : ℕ) (m : MeantDecl) → k < length ms → m ≡ get_or ms k m → (d : DeclText) × At ds k d × (decl_view m ≡ meant_decl ds d)
  resolved_at k m within is = item_for decl_view (meant_decl ds) ms ds k m resolved within is

  module _ (decls : List Decl) (same : ds ≡ map decl_text decls) (k : ℕ) (d : Decl) (m : MeantDecl) (within : k < length decls) (d_is : d ≡ get_or decls k d) (m_is : m ≡ get_or ms k m) where
    pub here : At ds k (decl_text d)
    here = subst (λ (cs : List DeclText). At cs k (decl_text d)) (sym same) (slice_get_item decl_text decls k d within d_is)

    pub both : decl_view m ≡ meant_decl ds (decl_text d)
    both =
        let below = slice_get_within ds k (decl_text d) here in
        let found = resolved_at k m (omega (arith, below, as_many)) m_is in
        found.2 ∙ ap (meant_decl ds) (same_Some found.0 (decl_text d) (sym found.1 ∙ here))

-- whether it is a constructor
pub own_is : (ds : List DeclText) (d : DeclText) (m : MeantDecl) (b : Bool) → b ≡ (not (decl_view m).function && not (decl_view m).builtin) → decl_view m ≡ meant_decl ds d → is_constructor d ≡ b
own_is ds d m b told same = sym (told ∙ ap (λ (x : MeantDeclView). not x.function && not x.builtin) same)
