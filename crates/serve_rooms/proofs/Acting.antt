-- Laws of acts that happen to a host and a keeper, one after the other.
use Rattle.std.proofs.Common.{◌≡◌, ◌⊎◌, inl, inr, ℕ, ◌≤◌, List, [], ◌∷◌, ◌++◌, length, map, true, false, Option, Some, None, IfSome, IsSome, refl, sym, ap, ◌∙◌, subst, arith}
use Rattle.tl_base.specs.Causes.{Rose}
use Rattle.box_server.specs.declared.entry.Entry.{Entry}
use Rattle.box_server.specs.Keeping.{KeeperState}
use Rattle.outside.specs.Events.{Event, HostState}
use Rattle.outside.specs.Grown.{Grew}
use Rattle.outside.specs.Laws.{Happened}
use Rattle.outside.proofs.Growing.{grew_none, grew_more}
use Rattle.serve_rooms.specs.Acts.{Act, hosted, loaded, added, rebuilds, unaccepted, unread, events_in, entries_after, entries_after_all, Agrees, AgreesAll, IsKeeperFault, IsSure, KeeperGrew, KeptState, KeptGrew}

-- ---- the host's events

pub events_more : (t u : List Act) → events_in (t ++ u) ≡ events_in t ++ events_in u
events_more [] u = refl
events_more (hosted e ∷ t) u = ap (λ (l : List Event). e ∷ l) (events_more t u)
events_more (loaded by ∷ t) u = events_more t u
events_more (added e ok ∷ t) u = events_more t u

pub events_hosted : (t : List Event) → events_in (map (λ e. hosted e) t) ≡ t
events_hosted [] = refl
events_hosted (e ∷ t) = ap (λ (l : List Event). e ∷ l) (events_hosted t)

-- ---- entries

pub entries_more : (t u : List Act) (es : Option (List Entry)) → entries_after_all (t ++ u) es ≡ entries_after_all u (entries_after_all t es)
entries_more [] u es = refl
entries_more (a ∷ t) u es = entries_more t u (entries_after a es)

pub entries_hosted : (t : List Event) (es : Option (List Entry)) → entries_after_all (map (λ e. hosted e) t) es ≡ es
entries_hosted [] es = refl
entries_hosted (e ∷ t) es = entries_hosted t es

-- they stay told
told_after : (a : Act) (es : Option (List Entry)) → IsSome es → IsSome (entries_after a es)
told_after (hosted e) es is = is
told_after (loaded by) es is = is
told_after (added e true) None is = is
told_after (added e true) (Some es) is = refl
told_after (added e false) es is = is

pub told_after_all : (t : List Act) (es : Option (List Entry)) → IsSome es → IsSome (entries_after_all t es)
told_after_all [] es is = is
told_after_all (a ∷ t) es is = told_after_all t (entries_after a es) (told_after a es is)

-- ---- what acts say of entries

agrees_full : (Sound More : Type 0) (room : ℕ) (es : Option (List Entry)) → (More → Sound) → IfSome es (λ kept. Sound → room ≤ length kept) → IfSome es (λ kept. More → room ≤ length kept)
agrees_full Sound More room None f h = tt
agrees_full Sound More room (Some es) f h = λ m. h (f m)

agrees_by : (Sound More : Type 0) (room : ℕ) (es : Option (List Entry)) (a : Act) → (More → Sound) → Agrees Sound room es a → Agrees More room es a
agrees_by Sound More room es (hosted e) f h = h
agrees_by Sound More room es (loaded (rebuilds s)) f h = h
agrees_by Sound More room es (loaded (unaccepted n)) f h = h
agrees_by Sound More room es (loaded unread) f h = λ m. h (f m)
agrees_by Sound More room es (added e true) f h = h
agrees_by Sound More room es (added e false) f h = agrees_full Sound More room es f h

all_by : (Sound More : Type 0) (room : ℕ) (es : Option (List Entry)) (t : List Act) → (More → Sound) → AgreesAll Sound room es t → AgreesAll More room es t
all_by Sound More room es [] f h = tt
all_by Sound More room es (a ∷ t) f h = (agrees_by Sound More room es a f h.0, all_by Sound More room (entries_after a es) t f h.1)

all_more : (Sound : Type 0) (room : ℕ) (es : Option (List Entry)) (t u : List Act) → AgreesAll Sound room es t → AgreesAll Sound room (entries_after_all t es) u → AgreesAll Sound room es (t ++ u)
all_more Sound room es [] u a b = b
all_more Sound room es (x ∷ t) u a b = (a.0, all_more Sound room (entries_after x es) t u a.1 b)

all_hosted : (Sound : Type 0) (room : ℕ) (es : Option (List Entry)) (t : List Event) → AgreesAll Sound room es (map (λ e. hosted e) t)
all_hosted Sound room es [] = tt
all_hosted Sound room es (e ∷ t) = (tt, all_hosted Sound room es t)

-- ---- the keeper

happened_one : (t u : List Act) → Happened IsKeeperFault (t ++ u) → Happened IsKeeperFault t ⊎ Happened IsKeeperFault u
happened_one [] u h = inr h
happened_one (a ∷ t) u (inl first) = inl (inl first)
happened_one (a ∷ t) u (inr later) = elim (happened_one t u later) [
  | inl h ↦ inl (inr h)
  | inr h ↦ inr h
]

none_hosted : (t : List Event) → Happened IsKeeperFault (map (λ e. hosted e) t) → ⊥
none_hosted [] h = h
none_hosted (e ∷ t) (inl first) = first
none_hosted (e ∷ t) (inr later) = none_hosted t later

pub keeper_hosted : (k : KeeperState) (t : List Event) → KeeperGrew k (map (λ e. hosted e) t) k
keeper_hosted k t = record {
  entries = sym (entries_hosted t k.entries);
  agrees = all_hosted (IsSure k) k.room k.entries t;
  later = omega arith;
  cause = λ h. absurd (none_hosted t h);
  room_kept = refl;
  stays = λ s. s;
}

risen_first : (a b c : ℕ) → Rose a b → b ≤ c → Rose a c
risen_first a b c r le = omega (arith, r, le)

risen_last : (a b c : ℕ) → a ≤ b → Rose b c → Rose a c
risen_last a b c le r = omega (arith, r, le)

pub keeper_more : (a b c : KeeperState) (t u : List Act) → KeeperGrew a t b → KeeperGrew b u c → KeeperGrew a (t ++ u) c
keeper_more a b c t u g h = record {
  entries = h.entries ∙ ap (entries_after_all u) g.entries ∙ sym (entries_more t u a.entries);
  agrees =
      let later : AgreesAll (IsSure b) a.room (entries_after_all t a.entries) u = subst (λ (n : ℕ). AgreesAll (IsSure b) n (entries_after_all t a.entries) u) g.room_kept (subst (λ (es : Option (List Entry)). AgreesAll (IsSure b) b.room es u) g.entries h.agrees) in
      all_more (IsSure a) a.room a.entries t u g.agrees (all_by (IsSure b) (IsSure a) a.room (entries_after_all t a.entries) u g.stays later);
  later = omega (arith, g.later, h.later);
  cause = λ x. elim (happened_one t u x) [
    | inl first ↦ risen_first a.faults b.faults c.faults (g.cause first) h.later
    | inr later ↦ risen_last a.faults b.faults c.faults g.later (h.cause later)
  ];
  room_kept = h.room_kept ∙ g.room_kept;
  stays = λ s. h.stays (g.stays s);
}

-- ---- both

pub kept_hosted : (p q : HostState) (k : KeeperState) (t : List Event) → Grew p t q → KeptGrew (record { host = p; keeper = k }) (map (λ e. hosted e) t) (record { host = q; keeper = k })
kept_hosted p q k t g = record { host = subst (λ (l : List Event). Grew p l q) (sym (events_hosted t)) g; keeper = keeper_hosted k t }

pub kept_none : (s : KeptState) → KeptGrew s [] s
kept_none s = record { host = grew_none s.host; keeper = keeper_hosted s.keeper [] }

pub kept_more : (a b c : KeptState) (t u : List Act) → KeptGrew a t b → KeptGrew b u c → KeptGrew a (t ++ u) c
kept_more a b c t u g h = record {
  host = subst (λ (l : List Event). Grew a.host l c.host) (sym (events_more t u)) (grew_more a.host b.host c.host (events_in t) (events_in u) g.host h.host);
  keeper = keeper_more a.keeper b.keeper c.keeper t u g.keeper h.keeper;
}
