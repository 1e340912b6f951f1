-- The types of the forms are formed in a profile's schema.
use Rattle.std.proofs.Common.{ℕ, ap, ◌∙◌, refl}
use Rattle.std.specs.Prelude.{IsTrue}
use Rattle.tl_schema.specs.Formed.{IsFormed}
use Rattle.wire_forms.specs.declared.form.Cell.TheVariants.{One}
use Rattle.wire_forms.specs.Forms.{constructs}
use Rattle.wire_profile.specs.Indexes.{ProfileView, cell_shape, form_at, variables_of}
use Rattle.wire_profile.specs.Profiles.{IsProfile}
use Rattle.wire_profile.proofs.FormTable.{member_form}
use Rattle.wire_profile.proofs.ProfileFacts.{declared, member, is_member}

-- form k is one of the type
pub type_formed : (p : ProfileView) → IsProfile p → (h k : ℕ) → IsTrue (constructs h k) → IsFormed p.schema (cell_shape p (One h))
type_formed p good h k is =
    let f = member_form h k is in (
      record {
        known = (is_member p good h k f.0 f.1).1.known;
        arity = λ i d m.
            let g = member_form h (form_at p.indexes i) (member p good h i d m) in
            (declared p good i (form_at p.indexes i) g.0 d refl g.1.there m.there).vars ∙ ap variables_of g.1.result;
      },
      tt,
    )
