-- Which types take four bytes at least.
use Rattle.std.proofs.Common.{◌≡◌, ℕ, ◌+◌, ◌≤◌, List, [], ◌++◌, length, replicate, Bool, true, false, refl, ap, sym, subst, arith}
use Rattle.std.specs.Prelude.{nat_le, if◌then◌else◌, ◌∷◌}
use Rattle.std.proofs.lemmas.List.{length-append, length-replicate}
use Rattle.tl_numbers.specs.Numbers.{word}
use Rattle.tl_schema.specs.Types.{Shape, Shapes}
use Rattle.tl_schema.specs.Schemas.{Declaration, Declared}
use Rattle.tl_types.specs.Values.{ValueView, ValueViews, count}
use Rattle.tl_types.specs.Values as view
use Rattle.tl_types.specs.Texts.{missing, text_bytes, text_head, three_bytes}
use Rattle.tl_types.specs.Spelling.{Begins, Spells, vector_prefix}
use Rattle.tl_types.specs.Spelling as begins
use Rattle.tl_plan.specs.Plans.{PlanView}
use Rattle.tl_plan.specs.PlanLaws.{IsInstance}
use Rattle.tl_plan.specs.Seen.{ShowsAt}
use Rattle.tl_schema.specs.Forms.{HasForm}
use Rattle.tl_schema.specs.declared.form.TypeForm.{TypeForm}
use Rattle.tl_schema.specs.declared.form.TypeForm.TheVariants as form
use Rattle.tl_plan.specs.declared.instances.Instance.{Instance}
use Rattle.tl_decode.specs.Endings.{BeginsWithItem, EachItemTakesFour, TakesFour}
use Rattle.tl_decode.proofs.PlanTypes.{instance_type, shown_type}

-- a word and what comes after it
word_first : (b w rest : List ℕ) → length w ≡ 4 → b ≡ w ++ rest → 4 ≤ length b
word_first b w rest four is = omega (arith, ap length is, length-append w rest, four)

head_some : (n : ℕ) → 1 ≤ length (text_head n)
head_some n = by (nat_le n 253)
  where
    by : (b : Bool) → 1 ≤ length (if b then n ∷ [] else 254 ∷ three_bytes n)
    by true = omega arith
    by false = omega arith

padded : (n : ℕ) → 1 ≤ n → 4 ≤ n + missing n
padded n some = omega (arith, some)

text_four : (s : List ℕ) → 4 ≤ length (text_bytes s)
text_four s =
    let head = text_head (length s) in
    let pad : List ℕ = replicate (missing (length head + length s)) 0 in
    let all : length (text_bytes s) ≡ (length head + length s) + missing (length head + length s) = omega (arith, length-append (head ++ s) pad, length-append head s, length-replicate {A = ℕ} (missing (length head + length s)) 0) in
    let some = head_some (length s) in
    let four = padded (length head + length s) (omega (arith, some)) in
    omega (arith, all, four)

list_four : (is_boxed : Bool) (n : ℕ) (rest b : List ℕ) → b ≡ vector_prefix is_boxed ++ word n ++ rest → 4 ≤ length b
list_four is_boxed n rest b is = omega (arith, ap length is, length-append (vector_prefix is_boxed ++ word n) rest, length-append (vector_prefix is_boxed) (word n))

begins_four : (schema : Declared) (T : Shape) (i : ℕ) (d : Declaration) (args : Shapes) (prefix rest b : List ℕ) → BeginsWithItem T → Begins schema T i d args prefix → b ≡ prefix ++ rest → 4 ≤ length b
begins_four schema T i d args prefix rest b ok (begins.boxed h is member own) split = omega (arith, ap length split, length-append prefix rest, ap length own)
begins_four schema T i d args prefix rest b ok (begins.bare is there own) split = absurd (subst BeginsWithItem is ok)

pub each_item_takes_four : EachItemTakesFour
each_item_takes_four schema T ok (view.int z) b s = omega (arith, ap length s.4)
each_item_takes_four schema T ok (view.long z) b s = omega (arith, ap length s.4)
each_item_takes_four schema T ok (view.nat n) b s = omega (arith, ap length s.2)
each_item_takes_four schema T ok (view.opaque o) b s = let least = subst BeginsWithItem s.0 ok in omega (arith, least, ap length s.1)
each_item_takes_four schema T ok (view.text t) b s = let least = text_four t in omega (arith, least, ap length s.2)
each_item_takes_four schema T ok view.truth b s = absurd (subst BeginsWithItem s.0 ok)
each_item_takes_four schema T ok view.absent b s = absurd s
each_item_takes_four schema T ok (view.list vs) b s = list_four s.0 (count vs) s.2 b s.5
each_item_takes_four schema T ok (view.node i vs) b s = begins_four schema T i s.0 s.1 s.2 s.3 b ok s.4 s.5
each_item_takes_four schema T ok (view.call i vs) b s = word_first b (word s.0.number) s.1 refl s.4

-- ---- the kinds of roots

wide_form : (T : Shape) (f : TypeForm) → HasForm T f → (f ≡ form.Flag → ⊥) → ((i : ℕ) → f ≡ form.Bare i → ⊥) → BeginsWithItem T
wide_form T form.Int is flag bare = subst BeginsWithItem (sym is) tt
wide_form T form.Long is flag bare = subst BeginsWithItem (sym is) tt
wide_form T form.Nat is flag bare = subst BeginsWithItem (sym is) tt
wide_form T form.Double is flag bare = subst BeginsWithItem (sym is) (omega arith)
wide_form T form.Int128 is flag bare = subst BeginsWithItem (sym is) (omega arith)
wide_form T form.Int256 is flag bare = subst BeginsWithItem (sym is) (omega arith)
wide_form T form.Str is flag bare = subst BeginsWithItem (sym is) tt
wide_form T form.Raw is flag bare = subst BeginsWithItem (sym is) tt
wide_form T form.Flag is flag bare = absurd (flag refl)
wide_form T form.Call is flag bare = subst BeginsWithItem (sym is) tt
wide_form T (form.Var i) is flag bare = subst BeginsWithItem (sym is) tt
wide_form T (form.Vector is_boxed) is flag bare = subst BeginsWithItem (sym is.1) tt
wide_form T (form.Boxed h) is flag bare = subst BeginsWithItem (sym is.1) tt
wide_form T (form.Bare i) is flag bare = absurd (bare i refl)

module _ (p : PlanView) (j : ℕ) (i : Instance) (shows : ShowsAt p.instances j i) (T : Shape) (root : IsInstance p j T) where
  has : (f : TypeForm) → i.form ≡ f → HasForm T f
  has f is = subst (λ (U : Shape). HasForm U f) (instance_type p j T root) (shown_type p j i f shows is)

  pub kind_wide : (i.form ≡ form.Flag → ⊥) → ((k : ℕ) → i.form ≡ form.Bare k → ⊥) → TakesFour p.schema T
  kind_wide flag bare = each_item_takes_four p.schema T (wide_form T i.form (has i.form refl) flag bare)

  pub flag_not : i.form ≡ form.Flag → BeginsWithItem T → ⊥
  flag_not is ok = subst BeginsWithItem (has form.Flag is) ok

  pub bare_not : (k : ℕ) → i.form ≡ form.Bare k → BeginsWithItem T → ⊥
  bare_not k is ok = subst BeginsWithItem (has (form.Bare k) is).1 ok
