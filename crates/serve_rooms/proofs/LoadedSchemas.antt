-- What is read as a schema, which is a profile or not, and that each of these can go on to its end.
use Rattle.std.proofs.Common.{◌≡◌, ℕ, List, [], codes, Option, Some, None, Result, Ok, Err, refl, sym, subst, inl, inr}
use Rattle.std.specs.Prelude.{option_map}
use Rattle.tl_schema.specs.CheckedPrograms.{IsSchema}
use Rattle.tl_schema.specs.Schemas.{Declared}
use Rattle.wire_profile.specs.Faults.{FaultView, IsAnswer}
use Rattle.wire_profile.specs.Indexes.{ProfileView}
use Rattle.outside.specs.Answer.{refused, read_fault_line}
use Rattle.outside.specs.Jobs.{of_fault}
use Rattle.outside.specs.Loading.{Refuses}
use Rattle.outside.specs.declared.status.Status.{Status}
use Rattle.outside.specs.declared.status.Status.TheVariants.{ReadFault}
use Rattle.outside.specs.declared.stop.LoadError.{LoadError}
use Rattle.outside.specs.declared.stop.LoadError.TheVariants as load_error
use Rattle.fault_lines.specs.Profiled.{TellsProfile, form_line}
use Rattle.fault_lines.proofs.Profiled.{each_schema}
use Rattle.schema_files.specs.Lines.{schema_line}
use Rattle.schema_files.specs.Loaded.{IsSchemaText}
use Rattle.schema_files.specs.Parts.{ReadsSchema}
use Rattle.schema_files.proofs.OneSchemaText.{schema_or_refused}
use Rattle.outside.specs.Events.{Event, HostState}
use Rattle.outside.specs.Printing.{Prints, PrintsMade, Unread}
use Rattle.outside.specs.Begun.{Did}
use Rattle.outside.specs.Steps.{Step, Ends, Begins}
use Rattle.outside.proofs.Growing as growing
use Rattle.outside.proofs.Piecewise.{can_tell}
use Rattle.outside.proofs.Printed.{can_print}
use Rattle.codec_rooms.proofs.Typing as typing
use Rattle.box_server.specs.Keeping.{KeeperState}
use Rattle.serve_rooms.specs.Acts.{KeptState, beside}
use Rattle.serve_rooms.specs.Doing.{Hosted, Last, BeginsKept, DidKept}
use Rattle.serve_rooms.specs.Serve.{EndsBy, OfText, no_schema, schema_of, after_reading, LoadsSchema, OfProfile, OfSchema, no_profile, profiled, after_loading, OfProfiled}
use Rattle.serve_rooms.specs.declared.loading.Loaded.{Loaded}
use Rattle.serve_rooms.specs.declared.loading.Loaded.TheVariants as schema
use Rattle.serve_rooms.specs.declared.status.KeptStatus.{KeptStatus}
use Rattle.serve_rooms.specs.declared.status.KeptStatus.TheVariants.{Run}
use Rattle.serve_rooms.proofs.Doing.{can_end, can_last, did_nothing, did_none, did_stop, did_stop_by, did_then_at, did_host, did_last, did_as, begun_as}

-- ---- a schema that was loaded is good

abbrev pub IsGood : Loaded → Type 0
IsGood (schema.Schema S) = IsSchema S
IsGood (schema.Ended status) = Unit {0}

ended_good : (S : Step Status) (t : List Event) (r : Loaded) → EndsBy S t r → IsGood r
ended_good S t r h = subst IsGood (sym h.goes.1) tt

text_good : (text : List ℕ) (t : List Event) (r : Loaded) → OfText text t r → IsGood r
text_good text t r (no_schema cause refuses h) = subst IsGood (sym h.goes.1) tt
text_good text t r (schema_of S is none same) = subst IsGood (sym same) is.good

read_good : (text : Option (List ℕ)) (t : List Event) (r : Loaded) → after_reading text t r → IsGood r
read_good (Some text) t r h = text_good text t r h
read_good None t r h = ended_good Unread t r h

pub loaded_good : (name : List ℕ) (t : List Event) (r : Loaded) → LoadsSchema name t r → IsGood r
loaded_good name t r h = read_good h.between h.rest r h.goes

pub did_good : (name : List ℕ) (p q : HostState) (r : Loaded) (S : Declared) → r ≡ schema.Schema S → Did (LoadsSchema name) p q (Some r) → IsSchema S
did_good name p q r S is h = subst IsGood is (loaded_good name h.trace r h.holds)

-- ---- a step by whose status the run ends

pub can_end_by : (S : Step Status) → Begins S [] → Begins (EndsBy S) []
can_end_by S m = growing.can_then S (λ status. Ends (schema.Ended status)) m (λ status. growing.can_end (schema.Ended status))

pub ended_by : (S : Step Status) (p q : HostState) (answer : Option Status) → Did S p q answer → Did (EndsBy S) p q (option_map (λ status. schema.Ended status) answer)
ended_by S p q (Some status) h = growing.did_both S (λ s. Ends (schema.Ended s)) p q q status (schema.Ended status) h (growing.did_nothing q (schema.Ended status))
ended_by S p q None h = growing.did_stop S (λ s. Ends (schema.Ended s)) p q (λ status. growing.can_end (schema.Ended status)) h

-- ---- a schema's text

pub can_text : (text : List ℕ) → Begins (OfText text) []
can_text text = elim (schema_or_refused text) [
  | inl (S, is) ↦ record { rest = []; answer = schema.Schema S; whole = schema_of S is refl refl }
  | inr (cause, r) ↦
      let S = Prints (refused (schema_line (codes "schema") cause)) in
      typing.begun_as (EndsBy S) (OfText text) (λ t a h. no_schema cause r h) (can_end_by S (can_print (refused (schema_line (codes "schema") cause))))
]

pub can_reading : (text : Option (List ℕ)) → Begins (after_reading text) []
can_reading (Some text) = can_text text
can_reading None = can_end_by Unread (can_tell read_fault_line ReadFault)

pub text_loaded : (text : List ℕ) (S : Declared) (p : HostState) → IsSchemaText text S → Did (OfText text) p p (Some (schema.Schema S))
text_loaded text S p is = record { trace = []; grew = growing.grew_none p; holds = schema_of S is refl refl }

pub text_told : (text : List ℕ) (u : LoadError) (p q : HostState) (answer : Option Status) → ReadsSchema (codes "schema") text (Err u) → PrintsMade (of_fault u) p q answer
    → Did (OfText text) p q (option_map (λ status. schema.Ended status) answer)
text_told text (load_error.Refused line) p q answer (cause, r, is) d =
    let S = Prints (refused line.items) in
    typing.did_as (EndsBy S) (OfText text) p q (option_map (λ status. schema.Ended status) answer) (λ t a h. no_schema cause r (subst (λ (l : List ℕ). EndsBy (Prints (refused l)) t a) is h)) (ended_by S p q answer d)
text_told text load_error.ReadFault p q answer reads d = absurd reads
text_told text load_error.Memory p q answer reads d =
    subst (λ (o : Option Status). Did (OfText text) p q (option_map (λ status. schema.Ended status) o)) (sym d.0) (subst (λ (s : HostState). Did (OfText text) p s None) (sym d.1) (growing.did_none (OfText text) p (can_text text)))

-- ---- the end of a run by what a host does alone

pub last_done : (S : Step Status) (p q : HostState) (k : KeeperState) (answer : Option Status) → Did S p q answer → DidKept (Last S) (beside p k) (beside q k) (option_map (λ status. Run status) answer)
last_done S p q k (Some status) h = did_last S p q k status h
last_done S p q k None h = did_stop (Hosted S) (λ status. Ends (Run status)) (beside p k) (beside q k) (λ status. can_end (Run status)) (did_host S p q k None h)

-- ---- a schema that is a profile

module _ (Rest : OfProfile) (S : Declared) where
  module _ (good : IsSchema S) (can : (p : ProfileView) → BeginsKept (Rest p) []) where
    can_told : (told : Result ProfileView FaultView) → IsAnswer S told → BeginsKept (OfSchema Rest S) []
    can_told (Ok p) is = begun_as (Rest p) (OfSchema Rest S) (λ t status h. profiled p is h) (can p)
    can_told (Err fault) is = begun_as (Last (Prints (refused (form_line fault)))) (OfSchema Rest S) (λ t status h. no_profile fault is h) (can_last (Prints (refused (form_line fault))) (can_print (refused (form_line fault))))

    pub can_profile : BeginsKept (OfSchema Rest S) []
    can_profile = let told = each_schema S good in can_told told.0 told.1

    pub profile_refused : (u : LoadError) (p q : HostState) (k : KeeperState) (answer : Option Status) → Refuses (TellsProfile S) u → PrintsMade (of_fault u) p q answer
        → DidKept (OfSchema Rest S) (beside p k) (beside q k) (option_map (λ status. Run status) answer)
    profile_refused (load_error.Refused line) p q k answer (fault, lacks, is) d =
        did_as (Last (Prints (refused line.items))) (OfSchema Rest S) (beside p k) (beside q k) (option_map (λ status. Run status) answer)
        (λ t status h. no_profile fault lacks (subst (λ (l : List ℕ). Last (Prints (refused l)) t status) is h)) (last_done (Prints (refused line.items)) p q k answer d)
    profile_refused load_error.ReadFault p q k answer refuses d = absurd refuses
    profile_refused load_error.Memory p q k answer refuses d =
        subst (λ (o : Option Status). DidKept (OfSchema Rest S) (beside p k) (beside q k) (option_map (λ status. Run status) o)) (sym d.0)
        (subst (λ (s : HostState). DidKept (OfSchema Rest S) (beside p k) (beside s k) None) (sym d.1) (did_none (OfSchema Rest S) (beside p k) can_profile))

  pub profile_made : (p : ProfileView) (a b : KeptState) (answer : Option KeptStatus) → IsAnswer S (Ok p) → DidKept (Rest p) a b answer → DidKept (OfSchema Rest S) a b answer
  profile_made p a b answer is = did_as (Rest p) (OfSchema Rest S) a b answer (λ t status h. profiled p is h)

-- ---- what follows of a schema's file

module _ (Rest : OfProfile) (name : List ℕ) (loaded : Loaded) (p q : HostState) (g : Did (LoadsSchema name) p q (Some loaded)) (k : KeeperState) where
  pub schema_kept : (S : Declared) (r : KeptState) (answer : Option KeptStatus) → loaded ≡ schema.Schema S → DidKept (OfSchema Rest S) (beside q k) r answer → DidKept (OfProfiled Rest name) (beside p k) r answer
  schema_kept S r answer is h = did_then_at (Hosted (LoadsSchema name)) (after_loading Rest) (beside p k) (beside q k) r loaded (schema.Schema S) answer is (did_host (LoadsSchema name) p q k (Some loaded) g) h

  pub ended_kept : (status : Status) → loaded ≡ schema.Ended status → DidKept (OfProfiled Rest name) (beside p k) (beside q k) (Some (Run status))
  ended_kept status is =
      did_then_at (Hosted (LoadsSchema name)) (after_loading Rest) (beside p k) (beside q k) (beside q k) loaded (schema.Ended status) (Some (Run status)) is (did_host (LoadsSchema name) p q k (Some loaded) g) (did_nothing (beside q k) (Run status))

module _ (Rest : OfProfile) (can : (p : ProfileView) → BeginsKept (Rest p) []) where
  pub can_loaded : (r : Loaded) → IsGood r → BeginsKept (after_loading Rest r) []
  can_loaded (schema.Schema S) good = can_profile Rest S good can
  can_loaded (schema.Ended status) good = can_end (Run status)

  pub stopped_kept : (name : List ℕ) (p q : HostState) (k : KeeperState) → Did (LoadsSchema name) p q None → DidKept (OfProfiled Rest name) (beside p k) (beside q k) None
  stopped_kept name p q k g = did_stop_by (Hosted (LoadsSchema name)) (after_loading Rest) (beside p k) (beside q k) (λ t r h. can_loaded r (loaded_good name h.0 r h.2)) (did_host (LoadsSchema name) p q k None g)
