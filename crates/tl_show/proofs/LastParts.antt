-- Of the parts that may stand at a key, the last that is there.
use Rattle.std.proofs.Common.{◌≡◌, ℕ, ◌+◌, ◌<◌, List, [], ◌∷◌, ◌++◌, length, map, take, get_or, Bool, true, false, not, Option, Some, None, is_some, refl, sym, ap, ap₂, subst, ◌∙◌}
use Rattle.std.specs.Option.{option_or}
use Rattle.std.proofs.lemmas.List.{map_push, take_more}
use Rattle.serde_json.specs.Data.{Data}
use Rattle.tl_schema.specs.Types.{Shape}
use Rattle.tl_types.specs.Values.{ValueViews}
use Rattle.tl_show.specs.inner.Forms.{IsThere, PartView, Reads, Stands, last_of, part_of, read_at, unless_missing}
use Rattle.tl_show.specs.inner.FormViews.{part_view, parts_view}
use Rattle.tl_show.specs.declared.form.Part.{Part}
use Rattle.tl_show.specs.declared.form.KeyParts.{KeyParts}

or_assoc : (a b c : Option Data) → option_or (option_or a b) c ≡ option_or a (option_or b c)
or_assoc None b c = refl
or_assoc (Some x) b c = refl

or_first : (a b : Option Data) → is_some a ≡ true → option_or a b ≡ a
or_first None b some = cc
or_first (Some x) b some = refl

or_second : (a b : Option Data) → is_some a ≡ false → option_or a b ≡ b
or_second None b none = refl
or_second (Some x) b none = cc

-- one part more
pub last_push : (n : List ℕ) (args : List Shape) (at : Reads) (ps : List PartView) (p : PartView) → last_of n args at (ps ++ p ∷ []) ≡ option_or (part_of n args at p) (last_of n args at ps)
last_push n args at [] p = or_none (part_of n args at p)
  where
    or_none : (o : Option Data) → o ≡ option_or o None
    or_none None = refl
    or_none (Some d) = refl
last_push n args at (q ∷ ps) p =
    ap (λ o. option_or o (part_of n args at q)) (last_push n args at ps p) ∙ or_assoc (part_of n args at p) (last_of n args at ps) (part_of n args at q)

pub parts_push : (n : List ℕ) (args : List Shape) (at : Reads) (was now : KeyParts) (p : Part) → now.first ≡ was.first → now.later.items ≡ was.later.items ++ p ∷ []
    → last_of n args at (parts_view now) ≡ option_or (part_of n args at (part_view p)) (last_of n args at (parts_view was))
parts_push n args at was now p first later =
    let pushed = ap₂ (λ (f : Part) (l : List Part). part_view f ∷ map part_view l) first later ∙ ap (λ (l : List PartView). part_view was.first ∷ l) (map_push part_view was.later.items p) in
    ap (last_of n args at) pushed ∙ last_push n args at (parts_view was) (part_view p)

pub there_some : (missing : Bool) (d : Data) → is_some (unless_missing missing d) ≡ not missing
there_some true d = refl
there_some false d = refl

-- ---- the loop over the later parts

module _ (vs : ValueViews) where
  stands_next : (ps : List PartView) (q : PartView) → IsThere vs q true → Stands vs (ps ++ q ∷ []) q
  stands_next ps q is n args fs = last_push n args (read_at fs vs) ps q ∙ or_first (part_of n args (read_at fs vs) q) (last_of n args (read_at fs vs) ps) (is n args fs)

  stands_still : (ps : List PartView) (p q : PartView) → Stands vs ps p → IsThere vs q false → Stands vs (ps ++ q ∷ []) p
  stands_still ps p q stands is n args fs =
      last_push n args (read_at fs vs) ps q ∙ or_second (part_of n args (read_at fs vs) q) (last_of n args (read_at fs vs) ps) (is n args fs) ∙ stands n args fs

  module _ (first p : Part) (later : List Part) (i : ℕ) (within : i < length later) (at : p ≡ get_or later i p) where
    one_more : part_view first ∷ map part_view (take (i + 1) later) ≡ (part_view first ∷ map part_view (take i later)) ++ part_view p ∷ []
    one_more =
        let more = take_more later i p within ∙ ap (λ (x : Part). take i later ++ x ∷ []) (sym at) in
        ap (λ (l : List PartView). part_view first ∷ l) (ap (map part_view) more ∙ map_push part_view (take i later) p)

    put_last : (now old : Part) → now ≡ old → Stands vs ((part_view first ∷ map part_view (take i later)) ++ part_view p ∷ []) (part_view old)
        → Stands vs (part_view first ∷ map part_view (take (i + 1) later)) (part_view now)
    put_last now old same stands =
        let P : Part → Type 0 = λ q. Stands vs (part_view first ∷ map part_view (take (i + 1) later)) (part_view q) in
        subst P (sym same) (subst (λ (l : List PartView). Stands vs l (part_view old)) (sym one_more) stands)

    pub this_stands : (now : Part) (is : Bool) → now ≡ p → is ≡ true → IsThere vs (part_view p) is → Stands vs (part_view first ∷ map part_view (take (i + 1) later)) (part_view now)
    this_stands now is same found there =
        let known : IsThere vs (part_view p) true = subst (IsThere vs (part_view p)) found there in
        put_last now p same (stands_next (part_view first ∷ map part_view (take i later)) (part_view p) known)

    pub still_stands : (old now : Part) (is : Bool) → now ≡ old → is ≡ false → IsThere vs (part_view p) is → Stands vs (part_view first ∷ map part_view (take i later)) (part_view old)
        → Stands vs (part_view first ∷ map part_view (take (i + 1) later)) (part_view now)
    still_stands old now is same none there stands =
        let known : IsThere vs (part_view p) false = subst (IsThere vs (part_view p)) none there in
        put_last now old same (stands_still (part_view first ∷ map part_view (take i later)) (part_view old) (part_view p) stands known)
