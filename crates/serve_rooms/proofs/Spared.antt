-- What a host does beside a keeper that keeps nothing, which never fails.
use Rattle.std.proofs.Common.{◌≡◌, inl, inr, ℕ, List, [], ◌∷◌, ◌++◌, map, true, false, Option, Some, None, Ok, refl, sym, ap₂, ◌∙◌, subst, arith}
use Rattle.std.proofs.lemmas.List.{append-nil}
use Rattle.std.specs.Prelude.{option_map}
use Rattle.tl_base.specs.Causes.{Rose}
use Rattle.tl_schema.specs.CheckedPrograms.{IsSchema}
use Rattle.tl_schema.specs.Schemas.{Declared}
use Rattle.wire_profile.specs.Faults.{IsAnswer}
use Rattle.wire_profile.specs.Indexes.{ProfileView}
use Rattle.box_server.specs.Servers.{ServerState, new_server}
use Rattle.box_server.specs.Keeping.{nothing_kept}
use Rattle.outside.specs.Answer.{refused}
use Rattle.outside.specs.Jobs.{of_fault}
use Rattle.outside.specs.Loading.{Refuses}
use Rattle.outside.specs.declared.status.Status.{Status}
use Rattle.outside.specs.declared.stop.LoadError.{LoadError}
use Rattle.fault_lines.specs.Profiled.{TellsProfile, form_line}
use Rattle.outside.specs.Events.{Event, HostState}
use Rattle.outside.specs.Laws.{Happened, Throughout}
use Rattle.outside.specs.Printing.{Prints, PrintsMade}
use Rattle.outside.specs.Begun.{Did, DidIn, WritesOnly}
use Rattle.outside.specs.Steps.{Step, StepOf, Ends, Then, Begins}
use Rattle.outside.proofs.Causing.{throughout_both, throughout_first}
use Rattle.outside.proofs.Growing.{did_any, did_both_at, did_more, did_nothing, did_stop_by, did_then_at}
use Rattle.codec_rooms.proofs.Typing.{did_as, refusal_done}
use Rattle.serve_rooms.specs.Acts.{Act, hosted, loaded, added, rebuilds, unaccepted, unread, events_in, IsKeeperFault, KeeperGrew, beside}
use Rattle.serve_rooms.specs.Doing.{Hosted, Last, IsKept, BeginsKept, DidKept, Spares, to_serve}
use Rattle.serve_rooms.specs.Serve.{LoadsSchema, OfProfile, OfSchema, no_profile, profiled, after_loading, OfProfiled}
use Rattle.serve_rooms.specs.Sessions.{ServesAll}
use Rattle.serve_rooms.specs.declared.loading.Loaded.{Loaded}
use Rattle.serve_rooms.specs.declared.loading.Loaded.TheVariants as schema
use Rattle.serve_rooms.specs.declared.status.KeptStatus.{KeptStatus}
use Rattle.serve_rooms.specs.declared.status.KeptStatus.TheVariants.{Run, KeepFault}
use Rattle.serve_rooms.proofs.Acting.{events_more, events_hosted}
use Rattle.serve_rooms.proofs.Connections.{faulty}
use Rattle.serve_rooms.proofs.Doing.{kept_hosted_all}
use Rattle.serve_rooms.proofs.Touching.{MayServe, may_load, may_serve_all}
use Rattle.serve_rooms.proofs.LoadedSchemas.{IsGood, loaded_good, can_profile, can_loaded}

-- ---- a keeper's failures

fails_kept : (a : Act) → IsKept a → IsKeeperFault a → ⊥
fails_kept (hosted e) kept h = h
fails_kept (loaded (rebuilds s)) kept h = h
fails_kept (loaded (unaccepted n)) kept h = h
fails_kept (loaded unread) kept h = kept
fails_kept (added e true) kept h = h
fails_kept (added e false) kept h = let no : false ≡ true = kept in cc

pub never_failed : (t : List Act) → Throughout IsKept t → Happened IsKeeperFault t → ⊥
never_failed [] kept h = h
never_failed (a ∷ t) kept (inl first) = fails_kept a kept.0 first
never_failed (a ∷ t) kept (inr later) = never_failed t kept.1 later

kept_by : (a : Act) → (IsKeeperFault a → ⊥) → IsKept a
kept_by (hosted e) never = tt
kept_by (loaded (rebuilds s)) never = tt
kept_by (loaded (unaccepted n)) never = tt
kept_by (loaded unread) never = never tt
kept_by (added e true) never = refl
kept_by (added e false) never = absurd (never tt)

pub all_kept : (t : List Act) → (Happened IsKeeperFault t → ⊥) → Throughout IsKept t
all_kept [] never = tt
all_kept (a ∷ t) never = (kept_by a (λ h. never (inl h)), all_kept t (λ h. never (inr h)))

none_rose : Rose 0 0 → ⊥
none_rose r = omega (arith, r)

-- each failure raises the count of a keeper, and that of one that keeps nothing is 0
pub nothing_failed : (t : List Act) → KeeperGrew nothing_kept t nothing_kept → Throughout IsKept t
nothing_failed t g = all_kept t (λ h. none_rose (g.cause h))

-- ---- by parts

pub spares_as : (S W : StepOf Act KeptStatus) → ((t : List Act) (a : KeptStatus) → S t a → W t a) → (t : List Event) (status : Status) → Spares S t status → Spares W t status
spares_as S W turns t status h = record { acts = h.acts; works = turns h.acts (Run status) h.works; kept = h.kept; events = h.events }

pub spares_end : (status given : Status) (t : List Event) → Ends status t given → Spares (Ends (Run status)) t given
spares_end status given t h = subst (λ (l : List Event). Spares (Ends (Run status)) l given) (sym h.0) (subst (λ (s : Status). Spares (Ends (Run status)) [] s) (sym h.1) (record { acts = []; works = (refl, refl); kept = tt; events = refl }))

module _ {A : Type 0} (S : Step A) (W : A → StepOf Act KeptStatus) where
  spares_both : (t u : List Event) (a : A) (status : Status) → S t a → Spares (W a) u status → Spares (Then (Hosted S) W) (t ++ u) status
  spares_both t u a status does h = record {
    acts = map (λ e. hosted e) t ++ h.acts;
    works = record { first = map (λ e. hosted e) t; rest = h.acts; between = a; splits = refl; does = (t, refl, does); goes = h.works };
    kept = throughout_both IsKept (map (λ e. hosted e) t) h.acts (kept_hosted_all t) h.kept;
    events = sym (events_more (map (λ e. hosted e) t) h.acts ∙ ap₂ (λ (l m : List Event). l ++ m) (events_hosted t) (sym h.events));
  }

  -- what a host does alone, and then what follows beside such a keeper
  pub spares_then : (t : List Event) (status : Status) → Then S (λ a. Spares (W a)) t status → Spares (Then (Hosted S) W) t status
  spares_then t status h = subst (λ (l : List Event). Spares (Then (Hosted S) W) l status) (sym h.splits) (spares_both h.first h.rest h.between status h.does h.goes)

  pub host_spare : (p q : HostState) (answer : Option Status) → DidIn to_serve (Then S (λ a. Spares (W a))) p q answer → DidIn to_serve (Spares (Then (Hosted S) W)) p q answer
  host_spare p q answer = did_as (Then S (λ a. Spares (W a))) (Spares (Then (Hosted S) W)) p q answer spares_then

pub spares_last : (S : Step Status) (t : List Event) (status : Status) → S t status → Spares (Last S) t status
spares_last S t status h = spares_then S (λ s. Ends (Run s)) t status (record { first = t; rest = []; between = status; splits = sym (append-nil t); does = h; goes = spares_end status status [] (refl, refl) })

-- ---- work whose answer tells a failure of the keeper only where there was one

module _ (W : StepOf Act KeptStatus) (faulty : (t : List Act) → W t KeepFault → Happened IsKeeperFault t) where
  spares_run : (t : List Act) (a : KeptStatus) → Throughout IsKept t → W t a → (status : Status) × Spares W (events_in t) status
  spares_run t (Run status) kept h = (status, record { acts = t; works = h; kept = kept; events = refl })
  spares_run t KeepFault kept h = absurd (never_failed t kept (faulty t h))

  pub can_spare : BeginsKept W [] → Begins (Spares W) []
  can_spare m = let run = spares_run m.rest m.answer m.kept m.whole in record { rest = events_in m.rest; answer = run.0; whole = run.1 }

  module _ (p q : HostState) where
    did_spare : (status : Status) → DidKept W (beside p nothing_kept) (beside q nothing_kept) (Some (Run status)) → DidIn to_serve (Spares W) p q (Some status)
    did_spare status h = record { trace = events_in h.trace; grew = h.grew.host; holds = record { acts = h.trace; works = h.holds; kept = nothing_failed h.trace h.grew.keeper; events = refl } }

    never_spared : DidKept W (beside p nothing_kept) (beside q nothing_kept) (Some KeepFault) → ⊥
    never_spared h = never_failed h.trace (nothing_failed h.trace h.grew.keeper) (faulty h.trace h.holds)

    did_spare_none : MayServe W → DidKept W (beside p nothing_kept) (beside q nothing_kept) None → DidIn to_serve (Spares W) p q None
    did_spare_none may h =
        let m = h.holds in
        let run = spares_run (h.trace ++ m.rest) m.answer (throughout_both IsKept h.trace m.rest (nothing_failed h.trace h.grew.keeper) m.kept) m.whole in
        record { trace = events_in h.trace; grew = h.grew.host; holds = record { rest = events_in m.rest; answer = run.0; whole = subst (λ (l : List Event). Spares W l run.0) (events_more h.trace m.rest) run.1; only = throughout_first (WritesOnly to_serve) (events_in h.trace) (events_in m.rest) (subst (Throughout (WritesOnly to_serve)) (events_more h.trace m.rest) (may (h.trace ++ m.rest) m.answer m.whole)) } }

-- ---- a new server

module _ (address : List ℕ) (sessions : ℕ) (p : ProfileView) (s : ServerState) (new : s ≡ new_server) (a b : HostState) (answer : Option KeptStatus)
    (h : DidKept (ServesAll address sessions s p) (beside a nothing_kept) (beside b nothing_kept) answer) where
  abbrev New : StepOf Act KeptStatus
  New = ServesAll address sessions new_server p

  served_as : (x : Option KeptStatus) → answer ≡ x → DidKept New (beside a nothing_kept) (beside b nothing_kept) x
  served_as x is = subst (λ (r : ServerState). DidKept (ServesAll address sessions r p) (beside a nothing_kept) (beside b nothing_kept) x) new (subst (λ (y : Option KeptStatus). DidKept (ServesAll address sessions s p) (beside a nothing_kept) (beside b nothing_kept) y) is h)

  pub new_never : answer ≡ Some KeepFault → ⊥
  new_never is = never_spared New (faulty address sessions new_server p) a b (served_as (Some KeepFault) is)

  pub new_served : (end : Option Status) → answer ≡ option_map (λ status. Run status) end → DidIn to_serve (Spares New) a b end
  new_served (Some status) is = did_spare New (faulty address sessions new_server p) a b status (served_as (Some (Run status)) is)
  new_served None is = did_spare_none New (faulty address sessions new_server p) a b (may_serve_all address sessions new_server p) (served_as None is)

-- ---- a schema

module _ (Rest : OfProfile) where
  -- likewise, of whatever follows of a profile
  module _ (faulty : (p : ProfileView) (t : List Act) → Rest p t KeepFault → Happened IsKeeperFault t) where
    schema_faulty : (S : Declared) (t : List Act) → OfSchema Rest S t KeepFault → Happened IsKeeperFault t
    schema_faulty S t (no_profile fault lacks h) = absurd (let no : KeepFault ≡ Run h.between = h.goes.1 in cc)
    schema_faulty S t (profiled p is h) = faulty p t h

    loaded_faulty : (r : Loaded) (t : List Act) → after_loading Rest r t KeepFault → Happened IsKeeperFault t
    loaded_faulty (schema.Schema S) t h = schema_faulty S t h
    loaded_faulty (schema.Ended status) t h = absurd (let no : KeepFault ≡ Run status = h.1 in cc)

    module _ (can : (p : ProfileView) → BeginsKept (Rest p) []) where
      can_spare_schema : (S : Declared) → IsSchema S → Begins (Spares (OfSchema Rest S)) []
      can_spare_schema S good = can_spare (OfSchema Rest S) (schema_faulty S) (can_profile Rest S good can)

      can_spare_loaded : (r : Loaded) → IsGood r → Begins (Spares (after_loading Rest r)) []
      can_spare_loaded r good = can_spare (after_loading Rest r) (loaded_faulty r) (can_loaded Rest can r good)

      -- the schema is no profile, or memory ran out
      pub refused_spare : (S : Declared) → IsSchema S → (u : LoadError) (p q : HostState) (answer : Option Status) → Refuses (TellsProfile S) u → PrintsMade (of_fault u) p q answer → DidIn to_serve (Spares (OfSchema Rest S)) p q answer
      refused_spare S good u p q answer =
          refusal_done (Spares (OfSchema Rest S)) (TellsProfile S) u p q answer (can_spare_schema S good)
          (λ line (fault, lacks, is) t status h. spares_as (Last (Prints (refused (form_line fault)))) (OfSchema Rest S) (λ u a d. no_profile fault lacks d) t status (spares_last (Prints (refused (form_line fault))) t status (subst (λ (l : List ℕ). Prints (refused l) t status) is h)))

      -- memory ran out while the schema was read
      pub stopped_spare : (name : List ℕ) (p q : HostState) → Did (LoadsSchema name) p q None → DidIn to_serve (Spares (OfProfiled Rest name)) p q None
      stopped_spare name p q h =
          host_spare (LoadsSchema name) (after_loading Rest) p q None
          (did_stop_by (LoadsSchema name) (λ r. Spares (after_loading Rest r)) p q (λ t r loads. can_spare_loaded r (loaded_good name t r loads)) (did_more (LoadsSchema name) p q None h))

  pub profiled_spare : (S : Declared) (profile : ProfileView) → IsAnswer S (Ok profile) → (p q : HostState) (answer : Option Status) → DidIn to_serve (Spares (Rest profile)) p q answer → DidIn to_serve (Spares (OfSchema Rest S)) p q answer
  profiled_spare S profile is p q answer = did_as (Spares (Rest profile)) (Spares (OfSchema Rest S)) p q answer (spares_as (Rest profile) (OfSchema Rest S) (λ t a h. profiled profile is h))

  module _ (name : List ℕ) (loaded : Loaded) (p q : HostState) (g : Did (LoadsSchema name) p q (Some loaded)) where
    pub schema_spare : (S : Declared) (r : HostState) (answer : Option Status) → loaded ≡ schema.Schema S → DidIn to_serve (Spares (OfSchema Rest S)) q r answer → DidIn to_serve (Spares (OfProfiled Rest name)) p r answer
    schema_spare S r answer is h = host_spare (LoadsSchema name) (after_loading Rest) p r answer (did_then_at (LoadsSchema name) (λ x. Spares (after_loading Rest x)) p q r loaded (schema.Schema S) answer is (may_load name) (did_any (LoadsSchema name) p q loaded g) h)

    pub ended_spare : (status : Status) → loaded ≡ schema.Ended status → DidIn to_serve (Spares (OfProfiled Rest name)) p q (Some status)
    ended_spare status is =
        host_spare (LoadsSchema name) (after_loading Rest) p q (Some status)
        (did_both_at (LoadsSchema name) (λ x. Spares (after_loading Rest x)) p q q loaded (schema.Ended status) status is (did_any (LoadsSchema name) p q loaded g)
        (did_as (Ends status) (Spares (Ends (Run status))) q q (Some status) (λ t given h. spares_end status given t h) (did_nothing q status)))
