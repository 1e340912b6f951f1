-- What an instance shows of the one that it stands for. This project's own.
use Rattle.std.specs.Prelude.{◌≡◌, ℕ, List, map, Some, slice_get}
use Rattle.tl_schema.specs.Forms.{HasForm}
use Rattle.tl_plan.specs.Plans.{InstanceView, MemberView}
use Rattle.tl_plan.specs.declared.instances.Member.{Member}
use Rattle.tl_plan.specs.declared.instances.Instance.{Instance}

abbrev pub member_view : Member → MemberView
member_view m = record { entry = m.entry; fields = m.fields.items }

pub record Shows (x : InstanceView) (i : Instance) : Type 0 where
  pub form : HasForm x.of i.form
  pub item : i.item ≡ x.item
  pub members : map member_view i.members.items ≡ x.members

-- the instance at this index is shown
abbrev pub ShowsAt : List InstanceView → ℕ → Instance → Type 0
ShowsAt xs k i = (x : InstanceView) × (slice_get xs k ≡ Some x) × Shows x i
