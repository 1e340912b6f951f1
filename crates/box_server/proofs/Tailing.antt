-- The tails of channels.
use Rattle.std.proofs.Common.{◌≡◌, ℕ, ℤ, suc, ◌+◌, ◌<◌, List, [], ◌∷◌, ◌++◌, Bool, true, false, ltb, Some, None, Result, Ok, Err, if◌then◌else◌, length, get_or, set, refl, sym, ap, ◌∙◌, subst, arith}
use Rattle.std.specs.Ordering.{int_eq}
use Rattle.box_events.specs.declared.limits.TheConstants.{MAX_END}
use Rattle.box_events.specs.declared.positions.LaneName.TheVariants.{Channel}
use Rattle.box_events.specs.Events.{EventView, count_of}
use Rattle.box_server.specs.declared.fault.PostFault.{PostFault}
use Rattle.box_server.specs.Servers.{ChannelBox, channel_end, channel_in, empty_channel}
use Rattle.box_server.specs.Posting.{with_event}
use Rattle.box_server.specs.inner.Drafts.{AddsTo, AddsToChannel, tail_index}

-- with an event
abbrev pub more : ChannelBox → EventView → ChannelBox
more c e = record c { events = c.events ++ e ∷ [] }

pub record IsAt (n : ℕ) (id : ℤ) (cs : List ChannelBox) (j : ℕ) : Type 0 where
  pub i : ℕ
  pub place : j ≡ n + i
  pub within : i < length cs
  pub with : (e : EventView) (d : ChannelBox) → with_event cs id e ≡ set cs i (more (get_or cs i d) e)
  pub is : (d : ChannelBox) → channel_in cs id ≡ get_or cs i d

at_by : (n : ℕ) (id : ℤ) (c : ChannelBox) (cs : List ChannelBox) (j : ℕ) (t : Bool) → int_eq c.id id ≡ t → (if t then Some n else tail_index (n + 1) id cs) ≡ Some j → (tail_index (n + 1) id cs ≡ Some j → IsAt (n + 1) id cs j) → IsAt n id (c ∷ cs) j
at_by n id c cs j true s is rest = record {
  i = 0;
  place = let same : n ≡ j = cc in omega (arith, same);
  within = omega arith;
  with = λ e d. ap (λ (b : Bool). if b then more c e ∷ cs else c ∷ with_event cs id e) s;
  is = λ d. ap (λ (b : Bool). if b then c else channel_in cs id) s;
}
at_by n id c cs j false s is rest =
    let r = rest is in
    record {
      i = suc r.i;
      place = let p = r.place in omega (arith, p);
      within = let w = r.within in omega (arith, w);
      with = λ e d. ap (λ (b : Bool). if b then more c e ∷ cs else c ∷ with_event cs id e) s ∙ ap (λ (l : List ChannelBox). c ∷ l) (r.with e d);
      is = λ d. ap (λ (b : Bool). if b then c else channel_in cs id) s ∙ r.is d;
    }

nothing_at : (j : ℕ) → None ≡ Some j → ⊥
nothing_at j e = cc

some_none : (j : ℕ) → Some j ≡ None → ⊥
some_none j e = cc

pub found_at : (n : ℕ) (id : ℤ) (cs : List ChannelBox) (j : ℕ) → tail_index n id cs ≡ Some j → IsAt n id cs j
found_at n id [] j is = absurd (nothing_at j is)
found_at n id (c ∷ cs) j is = at_by n id c cs j (int_eq c.id id) refl is (found_at (n + 1) id cs j)

new_by : (n : ℕ) (id : ℤ) (c : ChannelBox) (cs : List ChannelBox) (e : EventView) (t : Bool) → int_eq c.id id ≡ t → (if t then Some n else tail_index (n + 1) id cs) ≡ None
    → (tail_index (n + 1) id cs ≡ None → (channel_in cs id ≡ empty_channel id) × (with_event cs id e ≡ cs ++ record { id = id; first = 0; events = e ∷ [] } ∷ []))
    → (channel_in (c ∷ cs) id ≡ empty_channel id) × (with_event (c ∷ cs) id e ≡ c ∷ cs ++ record { id = id; first = 0; events = e ∷ [] } ∷ [])
new_by n id c cs e true s is rest = absurd (some_none n is)
new_by n id c cs e false s is rest =
    let r = rest is in (
      ap (λ (b : Bool). if b then c else channel_in cs id) s ∙ r.0,
      ap (λ (b : Bool). if b then more c e ∷ cs else c ∷ with_event cs id e) s ∙ ap (λ (l : List ChannelBox). c ∷ l) r.1,
    )

pub not_at : (n : ℕ) (id : ℤ) (cs : List ChannelBox) (e : EventView) → tail_index n id cs ≡ None → (channel_in cs id ≡ empty_channel id) × (with_event cs id e ≡ cs ++ record { id = id; first = 0; events = e ∷ [] } ∷ [])
not_at n id [] e is = (refl, refl)
not_at n id (c ∷ cs) e is = new_by n id c cs e (int_eq c.id id) refl is (not_at (n + 1) id cs e)

-- ---- what is added

pub added_at : (old new : List ChannelBox) (id : ℤ) (e : EventView) (c d : ChannelBox) (i : ℕ) (r : Result ℕ PostFault) → tail_index 0 id old ≡ Some i → c ≡ get_or old i c → new ≡ set old i d → AddsTo (Channel id) c d e r → AddsToChannel old new id e r
added_at old new id e c d i (Ok end) is at put a =
    let k = found_at 0 id old i is in
    let same : k.i ≡ i = let p = k.place in omega (arith, p) in
    let there : channel_in old id ≡ c = k.is c ∙ ap (λ (n : ℕ). get_or old n c) same ∙ sym at in (
      put ∙ ap (set old i) a.0 ∙ (λ j. set old (sym same j) (more ((sym there ∙ k.is c) j) e)) ∙ sym (k.with e c),
      a.1 ∙ ap (λ (x : ChannelBox). channel_end x + count_of e) (sym there),
      ap (λ (x : ChannelBox). ltb MAX_END (channel_end x + count_of e)) there ∙ a.2,
    )
added_at old new id e c d i (Err f) is at put a =
    let k = found_at 0 id old i is in
    let same : k.i ≡ i = let p = k.place in omega (arith, p) in
    subst (λ (x : ChannelBox). AddsTo (Channel id) x d e (Err f)) (sym (k.is c ∙ ap (λ (n : ℕ). get_or old n c) same ∙ sym at)) a

pub added_new : (old new : List ChannelBox) (id : ℤ) (e : EventView) (c d : ChannelBox) (end : ℕ) → tail_index 0 id old ≡ None → c ≡ empty_channel id → new ≡ old ++ d ∷ [] → AddsTo (Channel id) c d e (Ok end) → AddsToChannel old new id e (Ok end)
added_new old new id e c d end is empty put a =
    let k = not_at 0 id old e is in
    let there : channel_in old id ≡ c = k.0 ∙ sym empty in (
      put ∙ ap (λ (x : ChannelBox). old ++ x ∷ []) (a.0 ∙ ap (λ (x : ChannelBox). more x e) empty) ∙ sym k.1,
      a.1 ∙ ap (λ (x : ChannelBox). channel_end x + count_of e) (sym there),
      ap (λ (x : ChannelBox). ltb MAX_END (channel_end x + count_of e)) there ∙ a.2,
    )
