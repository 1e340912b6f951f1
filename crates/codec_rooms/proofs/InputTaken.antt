-- An input that is read piece by piece into a decoder.
use Rattle.std.proofs.Common.{◌≡◌, ◌⊎◌, ℕ, zero, suc, ◌-◌, ◌<◌, ◌≤◌, List, [], ◌∷◌, ◌++◌, length, take, append-nil, Bool, true, false, true≢false, Option, Some, None, Result, Ok, Err, refl, sym, ap, ◌∙◌, subst, inl, inr, arith, length-take-le}
use Rattle.std.specs.Prelude.{◌≢◌}
use Rattle.std.proofs.lemmas.List.{length-append}
use Rattle.tl_numbers.specs.Bytes.{AreBytes}
use Rattle.tl_base.specs.declared.host.Slot.TheVariants.{Input}
use Rattle.tl_schema.specs.CheckedPrograms.{IsSchema}
use Rattle.tl_schema.specs.Formed.{IsFormed}
use Rattle.tl_schema.specs.Schemas.{Declared}
use Rattle.tl_schema.specs.Types.{Shape}
use Rattle.tl_plan.specs.Plans.{IsPlan, PlanView}
use Rattle.tl_plan.specs.PlanLaws.{IsInstance}
use Rattle.tl_types.specs.Offsets.{moved}
use Rattle.tl_types.specs.Refusal as refusal
use Rattle.tl_types.specs.Spelling.{Spells}
use Rattle.tl_types.specs.Seen.{view}
use Rattle.tl_types.specs.Values.{ValueView, depth}
use Rattle.tl_types.specs.declared.cause.Cause.{Cause}
use Rattle.tl_types.specs.declared.cause.Cause.TheVariants as cause
use Rattle.tl_types.specs.declared.value.Value.{Value}
use Rattle.tl_types.specs.declared.value.TheConstants.{MAX_LEVELS}
use Rattle.tl_types.proofs.Exactly.{exactly_one}
use Rattle.tl_decode.specs.Decoders.{DecoderView, Feeds, HasTaken, HasValue}
use Rattle.tl_decode.specs.Wholes.{ReadsWhole, whole_fault}
use Rattle.tl_decode.specs.inner.FedWholes.{EndsAfter, FeedsWhole}
use Rattle.tl_decode.specs.declared.fault.DecodeFault.{DecodeFault}
use Rattle.tl_decode.specs.declared.fault.DecodeFault.TheVariants as fault
use Rattle.tl_decode.specs.declared.stack.Fed.{Fed}
use Rattle.tl_decode.specs.declared.stack.Fed.TheVariants as fed
use Rattle.tl_decode.specs.declared.whole.WholeFault.{WholeFault}
use Rattle.tl_decode.specs.declared.whole.WholeFault.TheVariants as whole
use Rattle.tl_decode.proofs.FedWhole.{IsCut, Stands, ends_later, feeds_more, first_done as fed_done, stands_done, stands_fault}
use Rattle.tl_base.specs.declared.fault.Failed.{Failed}
use Rattle.outside.specs.Events.{Event, HostState, took, ended, read_failed, given_event, read_events}
use Rattle.outside.specs.Grown.{Grew}
use Rattle.outside.specs.Begun.{Did, WritesOnly}
use Rattle.outside.specs.Steps.{Turn, again, leave, Reaches, Loops, Begins, Grows}
use Rattle.outside.proofs.Growing.{grew_none, Leaves, can_loop, did_none, loop_left, loop_stopped, reached_none, reached_turn}
use Rattle.outside.proofs.Piecewise.{read_grew}
use Rattle.codec_rooms.proofs.InputRead.{keeps_read}
use Rattle.codec_rooms.specs.Decode.{Verdict, IsOpen, cut, whole as spelled, Decides, faulty, longer, cut_off, is_value, ReadsOn, more, decided, at_end, failed, ReadsValue, at_once, reads, verdict}
use Rattle.codec_rooms.specs.inner.Feeding.{FeedsInput, EndsInput}
use Rattle.codec_rooms.proofs.Typing.{did_as}

truncated_or_not : (c : Cause) → (c ≡ cause.Truncated) ⊎ (c ≢ cause.Truncated)
truncated_or_not cause.Truncated = inl refl
truncated_or_not cause.TooDeep = inr (λ e. cc)
truncated_or_not cause.Packed = inr (λ e. cc)
truncated_or_not (cause.UnknownNumber w) = inr (λ e. cc)
truncated_or_not (cause.BadCount w) = inr (λ e. cc)
truncated_or_not cause.LongString = inr (λ e. cc)
truncated_or_not cause.LooseString = inr (λ e. cc)
truncated_or_not cause.BadPadding = inr (λ e. cc)

module _ (schema : Declared) (T : Shape) where
  -- a value, and what stands after it
  judged_value : (bytes : List ℕ) (v : ValueView) (x rest : List ℕ) → bytes ≡ x ++ rest → Spells schema T v x → depth v ≤ MAX_LEVELS
      → IsOpen schema T bytes ⊎ ((why : WholeFault) × Decides schema T bytes why)
  judged_value bytes v x [] split spells deep = inl (spelled v (subst (Spells schema T v) (sym (split ∙ append-nil x)) spells) deep)
  judged_value bytes v x (b ∷ rest) split spells deep = inr (_, longer v x (b ∷ rest) split (omega arith) spells deep)

  -- either it is open what bytes are, or they decide
  judged : IsSchema schema → IsFormed schema T → (bytes : List ℕ) → AreBytes bytes → IsOpen schema T bytes ⊎ ((why : WholeFault) × Decides schema T bytes why)
  judged good formed bytes are = elim (exactly_one schema good MAX_LEVELS T bytes formed are).either [
    | inl (v, x, (rest, split, spells, deep)) ↦ judged_value bytes v x rest split spells deep
    | inr (at, why, r) ↦ elim (truncated_or_not why) [
      | inl e ↦ inl (cut at (subst (refusal.Refused schema MAX_LEVELS T bytes at) e r))
      | inr e ↦ inr (_, faulty at why e r)
    ]
  ]

  leaves : (bytes : List ℕ) → Leaves (ReadsOn schema T) bytes
  leaves bytes = record { trace = read_failed Input ∷ []; answer = Err whole.ReadFault; does = failed refl }

  module _ (good : IsSchema schema) (formed : IsFormed schema T) where
    pub can_read : Begins (ReadsValue schema T) []
    can_read = elim (judged good formed [] (λ k. omega arith)) [
      | inl is_open ↦ (let m = can_loop (ReadsOn schema T) [] (leaves []) in record { rest = m.rest; answer = m.answer; whole = reads is_open m.whole })
      | inr (why, decides) ↦ record { rest = []; answer = Err why; whole = at_once why refl decides refl }
    ]

    -- a piece that was taken is a turn
    taken_turn : (bytes piece : List ℕ) → AreBytes (bytes ++ piece) → (x : Turn (List ℕ) Verdict) × ReadsOn schema T bytes (took Input piece ∷ []) x
    taken_turn bytes piece are = elim (judged good formed (bytes ++ piece) are) [
      | inl is_open ↦ (_, more piece refl is_open)
      | inr (why, decides) ↦ (_, decided piece why refl decides)
    ]

  -- ---- how far it is

  -- so many bytes were taken, which are cut off, and what has happened since the first read
  pub record SoFar (p q : HostState) (d : DecoderView) (at : ℕ) : Type 0 where
    pub bytes : List ℕ
    pub are : AreBytes bytes
    pub is_cut : IsCut schema T d bytes
    pub count : at ≡ moved 0 (length bytes)
    pub first : IsOpen schema T []
    pub reached : Grows p q (λ t. Reaches (ReadsOn schema T) [] t bytes)

  looped : (p q : HostState) (o : Option Verdict) → IsOpen schema T [] → Did (Loops (ReadsOn schema T) []) p q o → Did (ReadsValue schema T) p q o
  looped p q o first = did_as (Loops (ReadsOn schema T) []) (ReadsValue schema T) p q o (λ t r h. reads first h)

  did_turn : (p q : HostState) (e : Event) (bytes : List ℕ) (x : Turn (List ℕ) Verdict) → Grew p (e ∷ []) q → ReadsOn schema T bytes (e ∷ []) x → Did (ReadsOn schema T bytes) p q (Some x)
  did_turn p q e bytes x g h = record { trace = e ∷ []; grew = g; holds = h }

  left_by : (p q r : HostState) (e : Event) (bytes : List ℕ) (a : Verdict) → IsOpen schema T [] → Grows p q (λ t. Reaches (ReadsOn schema T) [] t bytes) → Grew q (e ∷ []) r
      → ReadsOn schema T bytes (e ∷ []) (leave a) → Did (ReadsValue schema T) p r (Some a)
  left_by p q r e bytes a first reached g h = looped p r (Some a) first (loop_left (ReadsOn schema T) [] bytes (leave a) a p q r refl reached (did_turn q r e bytes (leave a) g h))

  -- a read failed
  pub read_failed_so : (p q r : HostState) (d : DecoderView) (at : ℕ) → SoFar p q d at → Grew q (read_failed Input ∷ []) r → Did (ReadsValue schema T) p r (Some (Err whole.ReadFault))
  read_failed_so p q r d at s g = left_by p q r (read_failed Input) s.bytes (Err whole.ReadFault) s.first s.reached g (failed refl)

  -- the input ended where it is cut off
  pub ended_so : (p q r : HostState) (d : DecoderView) (at place : ℕ) → SoFar p q d at → place ≡ d.at → Grew q (ended Input ∷ []) r
      → Did (ReadsValue schema T) p r (Some (Err (whole.Refused place cause.Truncated)))
  ended_so p q r d at place s is g =
      subst (λ (k : ℕ). Did (ReadsValue schema T) p r (Some (Err (whole.Refused k cause.Truncated)))) (sym (is ∙ s.is_cut.place))
      (left_by p q r (ended Input) s.bytes (Err (whole.Refused (moved 0 s.is_cut.offset) cause.Truncated)) s.first s.reached g (at_end _ refl (cut_off s.is_cut.offset s.is_cut.refused)))

  -- ---- after a value

  pub value_end : (p q r : HostState) (d : DecoderView) (bytes : List ℕ) (v : ValueView) (place : ℕ) (result : Result (Unit {0}) WholeFault) → IsOpen schema T []
      → Grows p q (λ t. Reaches (ReadsOn schema T) [] t bytes)
      → Spells schema T v bytes → depth v ≤ MAX_LEVELS → HasValue d v → place ≡ moved 0 (length bytes) → EndsInput place q r result → FeedsInput schema T p r d result
  value_end p q r d bytes v place (Ok u) first reached spells deep has is h = (v, has, left_by p q r (ended Input) bytes (Ok v) first reached h (at_end (Ok v) refl (is_value v spells deep)))
  value_end p q r d bytes v place (Err (whole.Trailing at)) first reached spells deep has is h =
      subst (λ (k : ℕ). Did (ReadsValue schema T) p r (Some (Err (whole.Trailing k)))) (sym (h.0 ∙ is))
      (left_by p q r (took Input (h.1 ∷ [])) bytes (Err (whole.Trailing (moved 0 (length bytes)))) first reached h.2 (decided (h.1 ∷ []) _ refl (longer v bytes (h.1 ∷ []) refl (omega arith) spells deep)))
  value_end p q r d bytes v place (Err (whole.Refused at why)) first reached spells deep has is h = absurd h
  value_end p q r d bytes v place (Err whole.ReadFault) first reached spells deep has is h = left_by p q r (read_failed Input) bytes (Err whole.ReadFault) first reached h (failed refl)
  value_end p q r d bytes v place (Err whole.Memory) first reached spells deep has is h = absurd h

-- ---- pieces

pub are_both : (xs ys : List ℕ) → AreBytes xs → AreBytes ys → AreBytes (xs ++ ys)
are_both [] ys a b k = b k
are_both (x ∷ xs) ys a b zero = a zero
are_both (x ∷ xs) ys a b (suc k) = are_both xs ys (λ j. a (suc j)) b k

module _ (old new : DecoderView) (good : IsPlan old.plan) (T : Shape) (is : IsInstance old.plan old.root T) (formed : IsFormed old.plan.schema T) where
  abbrev own : Declared
  own = old.plan.schema

  -- what a piece is refused for
  not_cut : (front piece : List ℕ) (place offset : ℕ) (why : Cause) → HasTaken old front → Feeds old new piece (Err (fault.Refused place why))
      → refusal.Refused own MAX_LEVELS T (front ++ piece) offset why → why ≢ cause.Truncated
  not_cut front piece place offset why taken f r e = f.cut_off front taken T is offset (subst (refusal.Refused own MAX_LEVELS T (front ++ piece) offset) e r)

  -- the bytes that were taken, as all that there are
  alone : (front piece : List ℕ) → Stands (front ++ piece) front piece [] (Some [])
  alone front piece = record { split = sym (append-nil (front ++ piece)); rest = refl }

  refused_whole : (front piece : List ℕ) (place : ℕ) (why : Cause) → HasTaken old front → AreBytes (front ++ piece) → Feeds old new piece (Err (fault.Refused place why))
      → ReadsWhole own T (front ++ piece) (Err (whole.Refused place why))
  refused_whole front piece place why taken are f = stands_fault old new good T is formed (front ++ piece) front piece [] (Some []) (alone front piece) are taken (fault.Refused place why) f

  -- ---- before the first read

  pub first_fault : (p : HostState) (e : DecodeFault) → HasTaken old [] → Feeds old new [] (Err e) → FeedsInput own T p p new (Err (whole_fault e))
  first_fault p (fault.Refused place why) taken f =
      let w = refused_whole [] [] place why taken (λ k. omega arith) f in
      subst (λ (k : ℕ). Did (ReadsValue own T) p p (Some (Err (whole.Refused k why)))) (sym w.2)
      (record { trace = []; grew = grew_none p; holds = at_once (whole.Refused (moved 0 w.0) why) refl (faulty w.0 why (not_cut [] [] place w.0 why taken f w.1) w.1) refl })
  first_fault p fault.ReadFault taken f = absurd (f.unread refl)
  first_fault p fault.Memory taken f = did_none (ReadsValue own T) p (can_read own T good.schema formed)

  -- no byte is needed
  pub first_done : (p q : HostState) (used : ℕ) (result : Result (Unit {0}) WholeFault) → HasTaken old [] → Feeds old new [] (Ok (fed.Done used)) → EndsInput 0 p q result
      → FeedsInput own T p q new result
  first_done p q used result taken f h =
      let w = fed_done old new good T is formed (Some []) used (Ok tt) (λ k. omega arith) taken f (refl, refl) in
      value_end own T p p q new [] w.0 0 result (spelled w.0 w.2 w.3) (reached_none (ReadsOn own T) [] p) w.2 w.3 w.1 refl h

  pub first_more : (p : HostState) → HasTaken old [] → Feeds old new [] (Ok fed.More) → SoFar own T p p new 0
  first_more p taken f =
      let c = feeds_more old new good T is formed [] [] taken f (λ k. omega arith) in
      record { bytes = []; are = λ k. omega arith; is_cut = c; count = refl; first = cut c.offset c.refused; reached = reached_none (ReadsOn own T) [] p }

  -- ---- a piece

  module _ (p q r : HostState) (at : ℕ) (piece : List ℕ) (s : SoFar own T p q old at) (g : Grew q (took Input piece ∷ []) r) (are : AreBytes piece) where
    all_are : AreBytes (s.bytes ++ piece)
    all_are = are_both s.bytes piece s.are are

    pub next_fault : (e : DecodeFault) → Feeds old new piece (Err e) → FeedsInput own T p r new (Err (whole_fault e))
    next_fault (fault.Refused place why) f =
        let w = refused_whole s.bytes piece place why s.is_cut.taken all_are f in
        subst (λ (k : ℕ). Did (ReadsValue own T) p r (Some (Err (whole.Refused k why)))) (sym w.2)
        (left_by own T p q r (took Input piece) s.bytes (Err (whole.Refused (moved 0 w.0) why)) s.first s.reached g (decided piece _ refl (faulty w.0 why (not_cut s.bytes piece place w.0 why s.is_cut.taken f w.1) w.1)))
    next_fault fault.ReadFault f = absurd (f.unread refl)
    next_fault fault.Memory f =
        let x = taken_turn own T good.schema formed s.bytes piece all_are in
        looped own T p r None s.first
        (loop_stopped (ReadsOn own T) [] s.bytes p q r (leaves own T) (λ x n u h. keeps_read own T (WritesOnly []) (λ b. tt) tt tt x u (again n) h) s.reached (record { trace = took Input piece ∷ []; grew = g; holds = record { rest = []; answer = x.0; whole = x.1; only = (tt, tt) } }))

    on : IsOpen own T (s.bytes ++ piece) → Grows p r (λ t. Reaches (ReadsOn own T) [] t (s.bytes ++ piece))
    on is_open =
        reached_turn (ReadsOn own T) [] s.bytes (s.bytes ++ piece) (again (s.bytes ++ piece)) p q r refl s.reached (did_turn own T q r (took Input piece) s.bytes _ g (more piece refl is_open))

    pub next_more : (next : ℕ) → Feeds old new piece (Ok fed.More) → next ≡ moved at (length piece) → SoFar own T p r new next
    next_more next f is_next =
        let c = feeds_more old new good T is formed s.bytes piece s.is_cut.taken f all_are in
        record { bytes = s.bytes ++ piece; are = all_are; is_cut = c; count = omega (arith, is_next, s.count, length-append s.bytes piece); first = s.first; reached = on (cut c.offset c.refused) }

    -- the value ends in the piece
    module _ (used place : ℕ) (f : Feeds old new piece (Ok (fed.Done used))) (is_place : place ≡ moved at used) where
      -- what comes after it in the piece
      ended_by : (further : Bool) (r : Result (Unit {0}) WholeFault) → (further ≡ false → length piece ≤ used) → (further ≡ true → used < length piece) → EndsAfter place further [] r
          → FeedsWhole own T (s.bytes ++ piece) new r
      ended_by further r all some h =
          stands_done old new good T is formed (s.bytes ++ piece) s.bytes piece [] (Some []) (alone s.bytes piece) all_are s.is_cut.taken used at place further r f
          (ends_later old new good T formed s.bytes piece used s.are s.is_cut) s.count is_place all some h

      pub next_longer : used < length piece → FeedsInput own T p r new (Err (whole.Trailing place))
      next_longer few =
          let w = ended_by true (Err (whole.Trailing place)) (λ e. absurd (true≢false e)) (λ e. few) (refl, inl refl) in
          subst (λ (k : ℕ). Did (ReadsValue own T) p r (Some (Err (whole.Trailing k)))) (sym w.7)
          (left_by own T p q r (took Input piece) s.bytes (Err (whole.Trailing (moved 0 (length w.1)))) s.first s.reached g (decided piece _ refl (longer w.0 w.1 w.2 w.3 w.4 w.5 w.6)))

      pub next_value : (h : HostState) (result : Result (Unit {0}) WholeFault) → length piece ≤ used → EndsInput place r h result → FeedsInput own T p h new result
      next_value h result all ends =
          let w = ended_by false (Ok tt) (λ e. all) (λ e. absurd (true≢false (sym e))) (refl, refl) in
          let count : used ≡ length (s.bytes ++ piece) - length s.bytes = (f.spelled s.bytes s.is_cut.taken T is w.0 (s.bytes ++ piece) [] (sym (append-nil (s.bytes ++ piece))) w.2 w.3).0 in
          value_end own T p r h new (s.bytes ++ piece) w.0 place result s.first (on (spelled w.0 w.2 w.3)) w.2 w.3 w.1 (omega (arith, is_place, s.count, count, length-append s.bytes piece)) ends

-- ---- a decoder for a root of a plan

module _ (P : PlanView) (k : ℕ) (good : IsPlan P) (T : Shape) (is : IsInstance P k T) (formed : IsFormed P.schema T) (old : DecoderView) (plan : old.plan ≡ P) (root : old.root ≡ k) where
  pub own_good : IsPlan old.plan
  own_good = subst IsPlan (sym plan) good

  pub own_is : IsInstance old.plan old.root T
  own_is = subst (λ (q : PlanView). IsInstance q old.root T) (sym plan) (subst (λ (j : ℕ). IsInstance P j T) (sym root) is)

  pub own_formed : IsFormed old.plan.schema T
  own_formed = subst (λ (q : PlanView). IsFormed q.schema T) (sym plan) formed

-- ---- how the calls tell it

module _ (old new : DecoderView) (good : IsPlan old.plan) (T : Shape) (is : IsInstance old.plan old.root T) (formed : IsFormed old.plan.schema T) where
  pub first_goes : (p : HostState) (r : Fed) → HasTaken old [] → ((used : ℕ) → r ≡ fed.Done used → ⊥) → Feeds old new [] (Ok r) → SoFar old.plan.schema T p p new 0
  first_goes p fed.More taken other f = first_more old new good T is formed p taken f
  first_goes p (fed.Done used) taken other f = absurd (other used refl)

-- a read of none is the end
pub end_read : (p q : HostState) (n : ℕ) (into : List ℕ) → n ≡ 0 → Grew p (given_event Input (take n into) ∷ []) q → Grew p (ended Input ∷ []) q
end_read p q n into none g = subst (λ (k : ℕ). Grew p (given_event Input (take k into) ∷ []) q) none g

given_some : (bytes : List ℕ) → 0 < length bytes → given_event Input bytes ≡ took Input bytes
given_some [] some = absurd (omega (arith, some))
given_some (b ∷ bytes) some = refl

module _ (P : PlanView) (k : ℕ) (good : IsPlan P) (T : Shape) (is : IsInstance P k T) (formed : IsFormed P.schema T) (old : DecoderView) (plan : old.plan ≡ P) (root : old.root ≡ k) (new : DecoderView)
    (p q r : HostState) (at n : ℕ) (into : List ℕ) (s : SoFar P.schema T p q old at) (wide : 0 < length into) (some : 0 < n) (few : n ≤ length into)
    (g : Grew q (read_events {E = Failed} Input into (Ok n)) r) (are : AreBytes (take n into)) where
  abbrev piece : List ℕ
  piece = take n into

  size : length piece ≡ n
  size = length-take-le n into few

  took_it : Grew q (took Input piece ∷ []) r
  took_it = subst (λ (e : Event). Grew q (e ∷ []) r) (given_some piece (omega (arith, some, size))) (read_grew {E = Failed} Input into (Ok n) q r wide g)

  -- what holds by the decoder's own plan holds by the plan
  by_own : (G : Declared → Type 0) → ((good : IsPlan old.plan) → IsInstance old.plan old.root T → IsFormed old.plan.schema T → SoFar old.plan.schema T p q old at → G old.plan.schema) → G P.schema
  by_own G h =
      subst (λ (x : PlanView). G x.schema) plan
      (h (own_good P k good T is formed old plan root) (own_is P k good T is formed old plan root) (own_formed P k good T is formed old plan root) (subst (λ (x : PlanView). SoFar x.schema T p q old at) (sym plan) s))

  pub piece_fault : (e : DecodeFault) → Feeds old new piece (Err e) → FeedsInput P.schema T p r new (Err (whole_fault e))
  piece_fault e f = by_own (λ D. FeedsInput D T p r new (Err (whole_fault e))) (λ well at_root fine so_far. next_fault old new well T at_root fine p q r at piece so_far took_it are e f)

  pub piece_more : (next : ℕ) → Feeds old new piece (Ok fed.More) → next ≡ moved at n → SoFar P.schema T p r new next
  piece_more next f is_next =
      by_own (λ D. SoFar D T p r new next) (λ well at_root fine so_far. next_more old new well T at_root fine p q r at piece so_far took_it are next f (is_next ∙ ap (moved at) (sym size)))

  pub piece_longer : (used place : ℕ) → Feeds old new piece (Ok (fed.Done used)) → place ≡ moved at used → used < n → FeedsInput P.schema T p r new (Err (whole.Trailing place))
  piece_longer used place f is_place fewer =
      by_own (λ D. FeedsInput D T p r new (Err (whole.Trailing place)))
      (λ well at_root fine so_far. next_longer old new well T at_root fine p q r at piece so_far took_it are used place f is_place (omega (arith, fewer, size)))

  pub piece_value : (used place : ℕ) → Feeds old new piece (Ok (fed.Done used)) → place ≡ moved at used → (h : HostState) (result : Result (Unit {0}) WholeFault) → n ≤ used
      → EndsInput place r h result → FeedsInput P.schema T p h new result
  piece_value used place f is_place h result all ends =
      by_own (λ D. FeedsInput D T p h new result)
      (λ well at_root fine so_far. next_value old new well T at_root fine p q r at piece so_far took_it are used place f is_place h result (omega (arith, all, size)) ends)

-- ---- a decoder that was made for the root of a plan

pub value_read : (schema : Declared) (T : Shape) (p q : HostState) (d : DecoderView) (value : Value) → ((v : ValueView) → HasValue d v → view value ≡ v) → FeedsInput schema T p q d (Ok tt)
    → Did (ReadsValue schema T) p q (verdict (Ok value))
value_read schema T p q d value seen h = subst (λ (v : ValueView). Did (ReadsValue schema T) p q (Some (Ok v))) (sym (seen h.0 h.1)) h.2

pub fault_read : (schema : Declared) (T : Shape) (p q : HostState) (d : DecoderView) (e : WholeFault) → FeedsInput schema T p q d (Err e) → Did (ReadsValue schema T) p q (verdict (Err e))
fault_read schema T p q d (whole.Refused place why) h = h
fault_read schema T p q d (whole.Trailing place) h = h
fault_read schema T p q d whole.ReadFault h = h
fault_read schema T p q d whole.Memory h = h

pub made_reads : (P : PlanView) (good : IsPlan P) (made new : DecoderView) → made.plan ≡ P → made.root ≡ 0 → (p q : HostState) (r : Result (Unit {0}) WholeFault) (s : Result Value WholeFault)
    → ((schema : Declared) (T : Shape) → FeedsInput schema T p q new r → Did (ReadsValue schema T) p q (verdict s))
    → ((T : Shape) → IsInstance made.plan made.root T → IsFormed made.plan.schema T → FeedsInput made.plan.schema T p q new r)
    → (T : Shape) → IsInstance P 0 T → IsFormed P.schema T → Did (ReadsValue P.schema T) p q (verdict s)
made_reads P good made new plan root p q r s reads_as fed_so T is formed =
    reads_as P.schema T (subst (λ (x : PlanView). FeedsInput x.schema T p q new r) plan (fed_so T (own_is P 0 good T is formed made plan root) (own_formed P 0 good T is formed made plan root)))
