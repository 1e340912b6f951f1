-- Values of a plan's roots, of an input that may have ended.
use Rattle.std.proofs.Common.{◌≡◌, ℕ, zero, suc, ◌^◌, ◌<◌, ◌≤◌, List, [], ◌∷◌, ◌++◌, length, Option, Some, None, Result, Ok, Err, refl, ap, sym, ◌∙◌, subst, arith, inl, inr}
use Rattle.std.specs.Prelude.{IfSome, slice_get}
use Rattle.std.proofs.lemmas.List.{length-append}
use Rattle.tl_numbers.specs.Bytes.{AreBytes}
use Rattle.tl_schema.specs.Types.{Shape}
use Rattle.tl_schema.specs.Types as type
use Rattle.tl_plan.specs.Plans.{InstanceView, IsPlan, PlanView}
use Rattle.tl_plan.specs.PlanLaws.{IsInstance}
use Rattle.tl_types.specs.Offsets.{moved}
use Rattle.tl_types.specs.Values.{ValueView, depth}
use Rattle.tl_types.specs.Values as value
use Rattle.tl_types.specs.Seen.{view}
use Rattle.tl_types.specs.Spelling.{Spells}
use Rattle.tl_types.specs.Refusal.{Refused}
use Rattle.tl_types.specs.inner.Reading.{Spot, spot, Read, Reader, value_at}
use Rattle.tl_types.specs.declared.cause.Cause.{Cause}
use Rattle.tl_types.specs.declared.value.Value.{Value}
use Rattle.tl_types.specs.declared.value.TheConstants.{MAX_LEVELS}
use Rattle.tl_types.proofs.Exactly.{exactly_one}
use Rattle.tl_types.proofs.FormedParts.{IsRead}
use Rattle.tl_decode.specs.declared.fault.DecodeFault.{DecodeFault}
use Rattle.tl_decode.specs.declared.fault.DecodeFault.TheVariants as fault
use Rattle.tl_decode.specs.declared.stack.StackFrame.{StackFrame}
use Rattle.tl_decode.specs.declared.stack.WantedItem.{WantedItem}
use Rattle.tl_decode.specs.declared.stack.Item.{Item}
use Rattle.tl_decode.specs.declared.stack.Next.TheVariants as next
use Rattle.tl_decode.specs.declared.stack.Found.{Found}
use Rattle.tl_decode.specs.declared.stack.Found.TheVariants as found
use Rattle.tl_decode.specs.Endings.{GivesFewOrNone, GivesNone, GivesSome, RefusesFirst, TakesFour}
use Rattle.tl_decode.specs.inner.Steps.{OrEnds, ReadsAs}
use Rattle.tl_decode.specs.inner.Frames.{StackFrameView, views, type_in, resume, resumes, item_at, item_view, found_at, goes_after, next_at, IsInPlan, RefusesAt, SettlesAt}
use Rattle.tl_decode.proofs.FrameLists.{resume_err}
use Rattle.tl_decode.proofs.Onward.{item_fails, item_then}
use Rattle.tl_decode.proofs.Outcomes.{fails, gives_root, gives_root_fault, never_err, root_read}
use Rattle.tl_decode.proofs.SizesGiven.{gives_few}
use Rattle.tl_decode.proofs.PlanTypes.{type_there}

-- a reading is the same as another
pub or_as : {X Y : Type 0} (see : X → Y) (a b : Option (List ℕ)) (p q : ℕ) (r : Result (Option X) DecodeFault) (f g : Spot → Read Y) → OrEnds see a b p q r f → ((s : Spot) → g s ≡ f s) → OrEnds see a b p q r g
or_as see None b p q r f g h e = tt
or_as see (Some bytes) b p q (Ok None) f g h e = h
or_as see (Some bytes) b p q (Ok (Some x)) f g h e = (h.0, (h.1.0, h.1.1, e (spot p bytes) ∙ h.1.2))
or_as see (Some bytes) b p q (Err (fault.Refused place cause)) f g h e = (h.0, e (spot p bytes) ∙ h.1)
or_as see (Some bytes) b p q (Err fault.ReadFault) f g h e = tt
or_as see (Some bytes) b p q (Err fault.Memory) f g h e = tt

-- ---- after the first item

module _ (p : PlanView) (fs : List StackFrameView) (W : WantedItem) where
  pub first_none : (a b : Option (List ℕ)) (m q : ℕ) → OrEnds {X = Item} item_view a b m q (Ok None) (item_at W) → OrEnds {X = Value} view a b m q (Ok None) (found_at p fs (found.Wants W))
  first_none None b m q h = tt
  first_none (Some bytes) b m q h = h

  pub first_failed : (a b : Option (List ℕ)) (m q r : ℕ) (e : DecodeFault) → OrEnds {X = Item} item_view a b m q (Err e) (item_at W) → OrEnds {X = Value} view a b m r (Err e) (found_at p fs (found.Wants W))
  first_failed None b m q r e h = tt
  first_failed (Some bytes) b m q r (fault.Refused place cause) h = (h.0, ap (resumes p fs) (item_fails p fs W (spot m bytes) place cause h.1) ∙ resume_err p.schema.decls MAX_LEVELS fs _)
  first_failed (Some bytes) b m q r fault.ReadFault h = tt
  first_failed (Some bytes) b m q r fault.Memory h = tt

  goes : (bytes rest : List ℕ) (m q : ℕ) (x : Item) → item_at W (spot m bytes) ≡ Ok (item_view x, spot q rest) → found_at p fs (found.Wants W) (spot m bytes) ≡ goes_after p fs W m (item_view x) (spot q rest)
  goes bytes rest m q x h = ap (resumes p fs) (item_then p fs W (spot m bytes) (item_view x) (spot q rest) h)

  pub first_stops : (new : List StackFrame) (a b : Option (List ℕ)) (m q r work : ℕ) (x : Item) (e : DecodeFault) → OrEnds item_view a b m q (Ok (Some x)) (item_at W) → SettlesAt p (goes_after p fs W m (item_view x)) work q new (Err e) → OrEnds {X = Value} view a b m r (Err e) (found_at p fs (found.Wants W))
  first_stops new None b m q r work x e h s = tt
  first_stops new (Some bytes) b m q r work x (fault.Refused place cause) h s = (h.0, goes bytes h.1.0 m q x h.1.2 ∙ s.1 h.1.0)
  first_stops new (Some bytes) b m q r work x fault.ReadFault h s = tt
  first_stops new (Some bytes) b m q r work x fault.Memory h s = tt

  module _ (new : List StackFrame) (a b c : Option (List ℕ)) (m q r work : ℕ) (x : Item) (f : Found) (h : OrEnds item_view a b m q (Ok (Some x)) (item_at W)) (s : SettlesAt p (goes_after p fs W m (item_view x)) work q new (Ok f)) where
    left : (bytes : List ℕ) → a ≡ Some bytes → (0 < length bytes) × ((rest : List ℕ) × (b ≡ Some rest) × (found_at p fs (found.Wants W) (spot m bytes) ≡ found_at p (views p new) f (spot q rest)))
    left bytes is =
        let own = subst (λ (o : Option (List ℕ)). OrEnds item_view o b m q (Ok (Some x)) (item_at W)) is h in
        (own.0, (own.1.0, own.1.1, goes bytes own.1.0 m q x own.1.2 ∙ s.0.same (spot q own.1.0)))

    pub first_given : (v : Value) → ReadsAs view b c q r (Ok v) (found_at p (views p new) f) → OrEnds view a c m r (Ok (Some v)) (found_at p fs (found.Wants W))
    first_given v k = by a refl
      where
        by : (o : Option (List ℕ)) → a ≡ o → OrEnds view o c m r (Ok (Some v)) (found_at p fs (found.Wants W))
        by None is = tt
        by (Some bytes) is =
            let l = left bytes is in
            let own = subst (λ (o : Option (List ℕ)). ReadsAs view o c q r (Ok v) (found_at p (views p new) f)) l.1.1 k in
            (l.0, (own.0, own.1, l.1.2 ∙ own.2))

    pub first_ends : (e : DecodeFault) (z : ℕ) → ReadsAs {X = Value} view b c q r (Err e) (found_at p (views p new) f) → OrEnds {X = Value} view a c m z (Err e) (found_at p fs (found.Wants W))
    first_ends e z k = by a e refl k
      where
        by : (o : Option (List ℕ)) (e : DecodeFault) → a ≡ o → ReadsAs {X = Value} view b c q r (Err e) (found_at p (views p new) f) → OrEnds {X = Value} view o c m z (Err e) (found_at p fs (found.Wants W))
        by None e is k = tt
        by (Some bytes) (fault.Refused place cause) is k =
            let l = left bytes is in
            let own = subst (λ (o : Option (List ℕ)). ReadsAs {X = Value} view o c q r (Err (fault.Refused place cause)) (found_at p (views p new) f)) l.1.1 k in
            (l.0, l.1.2 ∙ own)
        by (Some bytes) fault.ReadFault is k = tt
        by (Some bytes) fault.Memory is k = tt

-- ---- a root

module _ (p : PlanView) (j : ℕ) where
  abbrev start : Reader
  start = value_at p.schema.decls MAX_LEVELS (type_in p j)

  opens : (s : Spot) → next_at p [] (next.Open j) s ≡ start s
  unfolding resume
  opens s = refl

  -- its first item is looked for
  pub root_wants : (none new : List StackFrame) (a b : Option (List ℕ)) (m q work : ℕ) (W : WantedItem) (r : Result (Option Value) DecodeFault) → none ≡ [] → SettlesAt p (next_at p (views p none) (next.Open j)) work m new (Ok (found.Wants W))
      → OrEnds view a b m q r (found_at p (views p new) (found.Wants W)) → OrEnds view a b m q r start
  root_wants none new a b m q work W r e s h =
      let first = subst (λ (fs : List StackFrame). SettlesAt p (next_at p (views p fs) (next.Open j)) work m new (Ok (found.Wants W))) e s in
      or_as view a b m q r (found_at p (views p new) (found.Wants W)) start h (λ z. sym (opens z) ∙ first.0.same z)

  -- it is refused before its first item
  pub root_refused : (none new : List StackFrame) (a b : Option (List ℕ)) (m work : ℕ) (e : DecodeFault) (r : Result (Option Value) DecodeFault) → none ≡ [] → SettlesAt p (next_at p (views p none) (next.Open j)) work m new (Err e)
      → IfSome a (λ bytes. RefusesAt e bytes b r) → OrEnds view a b m m r start
  root_refused none new a b m work e r is s h = by a r h (subst (λ (fs : List StackFrame). SettlesAt p (next_at p (views p fs) (next.Open j)) work m new (Err e)) is s)
    where
      at_once : (place : ℕ) (cause : Cause) (bytes : List ℕ) → fault.Refused place cause ≡ e → SettlesAt p (next_at p [] (next.Open j)) work m new (Err e) → start (spot m bytes) ≡ Err (place, cause)
      at_once place cause bytes is s = sym (opens (spot m bytes)) ∙ (subst (λ (f : DecodeFault). SettlesAt p (next_at p [] (next.Open j)) work m new (Err f)) (sym is) s).1 bytes

      by : (a : Option (List ℕ)) (r : Result (Option Value) DecodeFault) → IfSome a (λ bytes. RefusesAt e bytes b r) → SettlesAt p (next_at p [] (next.Open j)) work m new (Err e) → OrEnds view a b m m r start
      by None r h s = tt
      by (Some bytes) (Ok None) h s = (h.0, h.1, refl)
      by (Some bytes) (Ok (Some v)) h s = absurd h
      by (Some bytes) (Err (fault.Refused place cause)) h s = (h.0, at_once place cause bytes h.1 s)
      by (Some bytes) (Err fault.ReadFault) h s = tt
      by (Some bytes) (Err fault.Memory) h s = tt

  -- no read fault comes before the first item
  pub root_unread : (old : Reader) (new : List StackFrame) (m work : ℕ) (e : DecodeFault) → SettlesAt p old work m new (Err e) → e ≡ fault.ReadFault → ⊥
  root_unread old new m work e s is = subst (λ (f : DecodeFault). SettlesAt p old work m new (Err f)) is s

  -- ---- a root takes bytes

  instance_there : (xs : List InstanceView) (k : ℕ) → k < length xs → (x : InstanceView) × (slice_get xs k ≡ Some x)
  instance_there [] k within = absurd (omega (arith, within))
  instance_there (x ∷ xs) zero within = (x, refl)
  instance_there (x ∷ xs) (suc k) within = instance_there xs k (omega (arith, within))

  root_there : IsInPlan p j → IsInstance p j (type_in p j)
  root_there within = let there = instance_there p.instances j within in (there.0, there.1, sym (type_there p j there.0 there.1))

  no_bytes : AreBytes []
  no_bytes k = omega arith

  module _ (good : IsPlan p) (four : (T : Shape) → IsInstance p j T → TakesFour p.schema T) (is : IsInstance p j (type_in p j)) (v : Value) (all : (s : Spot) → start s ≡ Ok (view v, s)) where
    not_flag : type_in p j ≡ type.flag → ⊥
    not_flag e = let least = four (type_in p j) is value.truth [] (e, refl) in omega (arith, least)

    not_read : IsRead p.schema (type_in p j) → ⊥
    not_read (inl e) = not_flag e
    not_read (inr formed) = elim (exactly_one p.schema good.schema MAX_LEVELS (type_in p j) [] formed no_bytes).either [
      | inl (w, x, (rest, split, spells, deep)) ↦ (let least = four (type_in p j) is w x spells in omega (arith, least, ap length split, length-append x rest))
      | inr (at, cause, r) ↦ never_err (sym (fails p.schema good.schema (type_in p j) (inr formed) MAX_LEVELS 0 (omega arith) [] at cause r) ∙ all (spot 0 []))
    ]

    pub never_done : ⊥
    never_done = not_read (root_read p good j (type_in p j) is)

  pub root_not_done : IsPlan p → ((T : Shape) → IsInstance p j T → TakesFour p.schema T) → IsInPlan p j → (none new : List StackFrame) (m work : ℕ) (f : Found) (v : Value) → none ≡ [] → f ≡ found.Done v → SettlesAt p (next_at p (views p none) (next.Open j)) work m new (Ok f) → ⊥
  root_not_done good four within none new m work f v empty is s =
      let first = subst (λ (fs : List StackFrame). SettlesAt p (next_at p (views p fs) (next.Open j)) work m new (Ok f)) empty s in
      let done = subst (λ (g : Found). SettlesAt p (next_at p [] (next.Open j)) work m new (Ok g)) is first in
      never_done good four (root_there within) v (λ z. sym (opens z) ∙ done.0.same z)

-- ---- what is said of the answer

pub says_none : (p : PlanView) (j : ℕ) (a b : Option (List ℕ)) (m q : ℕ) (r : Result (Option Value) DecodeFault) → OrEnds view a b m q r (value_at p.schema.decls MAX_LEVELS (type_in p j)) → IfSome a (λ bytes. GivesNone bytes b m q r)
says_none p j None b m q r h = tt
says_none p j (Some bytes) b m q (Ok None) h = h
says_none p j (Some bytes) b m q (Ok (Some v)) h = h.0
says_none p j (Some bytes) b m q (Err (fault.Refused place cause)) h = h.0
says_none p j (Some bytes) b m q (Err fault.ReadFault) h = tt
says_none p j (Some bytes) b m q (Err fault.Memory) h = tt

module _ (p : PlanView) (good : IsPlan p) (j : ℕ) where
  pub says_some : ((T : Shape) → IsInstance p j T → TakesFour p.schema T) → (a b : Option (List ℕ)) (m q : ℕ) (r : Result (Option Value) DecodeFault) → m < 2 ^ 64 → OrEnds view a b m q r (value_at p.schema.decls MAX_LEVELS (type_in p j))
      → IfSome a (λ bytes. (T : Shape) → IsInstance p j T → (v : ValueView) (x rest : List ℕ) → bytes ≡ x ++ rest → Spells p.schema T v x → depth v ≤ MAX_LEVELS → GivesSome r b m q v x rest)
  says_some four None b m q r lt h = tt
  says_some four (Some bytes) b m q (Ok None) lt h = λ T is v x rest split s deep. let least = four T is v x s in omega (arith, least, ap length h.0, ap length split, length-append x rest)
  says_some four (Some bytes) b m q (Ok (Some v)) lt h = gives_root p good j MAX_LEVELS (Some bytes) b m q (Ok v) lt h.1
  says_some four (Some bytes) b m q (Err (fault.Refused place cause)) lt h = gives_root p good j MAX_LEVELS (Some bytes) b m q (Err (fault.Refused place cause)) lt h.1
  says_some four (Some bytes) b m q (Err fault.ReadFault) lt h = λ T is v x rest split s deep. tt
  says_some four (Some bytes) b m q (Err fault.Memory) lt h = λ T is v x rest split s deep. tt

  pub says_refused : (a b : Option (List ℕ)) (m q : ℕ) (r : Result (Option Value) DecodeFault) → m < 2 ^ 64 → OrEnds view a b m q r (value_at p.schema.decls MAX_LEVELS (type_in p j))
      → IfSome a (λ bytes. 0 < length bytes → (T : Shape) → IsInstance p j T → (offset : ℕ) (cause : Cause) → Refused p.schema MAX_LEVELS T bytes offset cause → RefusesFirst r (moved m offset) cause)
  says_refused None b m q r lt h = tt
  says_refused (Some bytes) b m q (Ok None) lt h = λ some. absurd (omega (arith, some, ap length h.0))
  says_refused (Some bytes) b m q (Ok (Some v)) lt h = λ some. gives_root_fault p good j MAX_LEVELS (Some bytes) b m q (Ok v) lt h.1
  says_refused (Some bytes) b m q (Err (fault.Refused place cause)) lt h = λ some. gives_root_fault p good j MAX_LEVELS (Some bytes) b m q (Err (fault.Refused place cause)) lt h.1
  says_refused (Some bytes) b m q (Err fault.ReadFault) lt h = λ some T is offset cause s. tt
  says_refused (Some bytes) b m q (Err fault.Memory) lt h = λ some T is offset cause s. tt

  pub says_few : (a b : Option (List ℕ)) (m q : ℕ) (r : Result (Option Value) DecodeFault) → m < 2 ^ 64 → IfSome a AreBytes → OrEnds view a b m q r (value_at p.schema.decls MAX_LEVELS (type_in p j))
      → IfSome a (λ bytes. (T : Shape) → IsInstance p j T → GivesFewOrNone p.schema T bytes b r)
  says_few None b m q r lt are h = tt
  says_few (Some bytes) b m q (Ok None) lt are h = λ T is. tt
  says_few (Some bytes) b m q (Ok (Some v)) lt are h = gives_few p good j (Some bytes) b m q (Ok v) lt are h.1
  says_few (Some bytes) b m q (Err e) lt are h = λ T is. tt
