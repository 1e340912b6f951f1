-- What holds of runs of words where no call was told to fail, whatever room there is: files that are there are read, and lines for which there is room stand whole.
use Rattle.std.proofs.Common.{◌≡◌, ◌≢◌, ℕ, List, [], ◌∷◌, ◌++◌, append-nil, Bool, true, false, sym, ap, ◌∙◌, subst, inl, inr}
use Rattle.std.specs.List.{AllByRecursion}
use Rattle.tl_base.specs.Outside.{View, IsThere}
use Rattle.tl_base.specs.declared.host.Out.{Out}
use Rattle.tl_base.specs.declared.host.Out.TheVariants as outs
use Rattle.tl_base.specs.declared.host.Slot.{Slot}
use Rattle.tl_base.specs.declared.host.Slot.TheVariants as slots
use Rattle.outside.specs.Answer.{memory_line}
use Rattle.outside.specs.declared.status.Status.{Status}
use Rattle.outside.specs.declared.status.Status.TheVariants.{Usage, ReadFault, Memory}
use Rattle.outside.specs.Events.{Event, Outside, opened, took, ended, read_failed, created, put, write_failed, listened, connected, accepted, told}
use Rattle.outside.specs.Laws.{Throughout}
use Rattle.outside.specs.Fits.{Fits}
use Rattle.outside.specs.Pieces.{Tells}
use Rattle.outside.specs.Reliable.{IsMissing, IsReliable}
use Rattle.outside.proofs.Causing.{told_status}
use Rattle.outside.proofs.Fitting.{reads_fail_alone}
use Rattle.codec_rooms.specs.Commands as codec
use Rattle.codec_rooms.specs.Laws.{IsRead, Named}
use Rattle.call_commands.specs.Commands as calling
use Rattle.update_commands.specs.Commands as updating
use Rattle.session_rooms.specs.ClientLaws.{IsCreatedByClient, IsOpenedByClient}
use Rattle.session_rooms.specs.PostLaws.{IsOpenedByPost}
use Rattle.serve_rooms.specs.Acts.{Act, events_in}
use Rattle.serve_rooms.specs.Doing.{Last}
use Rattle.serve_rooms.specs.ServeLaws.{ExplainsKept, IsOfServe, IsOpenedByServe}
use Rattle.serve_rooms.specs.declared.status.KeptStatus.{KeptStatus}
use Rattle.serve_rooms.specs.declared.status.KeptStatus.TheVariants.{Run}
use Rattle.serve_rooms.proofs.ServeLaws.{keep_has_cause, keep_touches}
use Rattle.commands.specs.KeepWords.{AsksToKeep, KeepText}
use Rattle.commands.specs.Requests.{RequestText, check, decode, encode, replay, make, serve, post, client, layers, calls}
use Rattle.commands.specs.Usage.{usage_line}
use Rattle.commands.specs.Work.{RunsStored, RunsWords, no_keep, kept, no_request, requested, no_memory}
use Rattle.commands.proofs.KeepWords.{one_keep}
use Rattle.run_laws.specs.Ended.{ReadFailed}
use Rattle.run_laws.specs.Requests.{HasFilesOf}
use Rattle.run_laws.specs.Runs.{RequestsAreTold, RequestsReadFiles, StoredAreTold, StoredReadFiles, WordsAreTold, WordsReadFiles}
use Rattle.run_laws.specs.Touched.{IsOfRequest, IsTelling}
use Rattle.run_laws.proofs.Touching.{explained_by, never, request_explains, request_touches, telling, words_have_cause, words_touch}
use Rattle.run_laws.proofs.Untold.{IsUncreated, lines_stand}
use Rattle.run_laws.proofs.files.Spared.{throughout_as}
use Rattle.run_laws.proofs.serving.Beginnings.{hosted_events}

-- ---- files that are there

named_there : (v : View) (reads : Named) (slot : Slot) (name : List ℕ) → AllByRecursion (λ r. IsThere r.1 v) reads → IsRead reads slot name → IsThere name v
named_there v [] slot name there is = absurd is
named_there v (r ∷ reads) slot name there (inl is) = subst (λ (l : List ℕ). IsThere l v) (sym is.1) there.0
named_there v (r ∷ reads) slot name there (inr later) = named_there v reads slot name there.1 later

served_there : (v : View) (schema : List ℕ) (slot : Slot) (name : List ℕ) → IsThere schema v → IsOpenedByServe schema slot name → IsThere name v
served_there v schema slots.Schema name there is = subst (λ (l : List ℕ). IsThere l v) (sym is) there
served_there v schema slots.Input name there is = absurd is
served_there v schema slots.State name there is = absurd is
served_there v schema slots.Link name there is = absurd is

posted_there : (v : View) (schema input : List ℕ) (slot : Slot) (name : List ℕ) → IsThere schema v × IsThere input v → IsOpenedByPost schema input slot name → IsThere name v
posted_there v schema input slots.Schema name there is = subst (λ (l : List ℕ). IsThere l v) (sym is) there.0
posted_there v schema input slots.Input name there is = subst (λ (l : List ℕ). IsThere l v) (sym is) there.1
posted_there v schema input slots.State name there is = absurd is
posted_there v schema input slots.Link name there is = absurd is

client_there : (v : View) (schema state : List ℕ) (slot : Slot) (name : List ℕ) → IsThere schema v × IsThere state v → IsOpenedByClient schema state slot name → IsThere name v
client_there v schema state slots.Schema name there is = subst (λ (l : List ℕ). IsThere l v) (sym is) there.0
client_there v schema state slots.Input name there is = absurd is
client_there v schema state slots.State name there is = subst (λ (l : List ℕ). IsThere l v) (sym is) there.1
client_there v schema state slots.Link name there is = absurd is

opened_there : (v : View) (r : RequestText) (slot : Slot) (name : List ℕ) → HasFilesOf v.files r → IsOfRequest r (opened slot name false) → IsThere name v
opened_there v (check schema) slot name there is = named_there v (codec.check schema).reads slot name (there, tt) is
opened_there v (decode schema type input) slot name there is = named_there v (codec.decode schema type input).reads slot name (there.0, (there.1, tt)) is
opened_there v (encode schema type input) slot name there is = named_there v (codec.encode schema type input).reads slot name (there.0, (there.1, tt)) is
opened_there v (replay schema journal clients) slot name there is = named_there v (updating.replay schema journal clients).reads slot name (there.0, (there.1, tt)) is
opened_there v (make schema number steps) slot name there is = named_there v (updating.make schema number steps).reads slot name (there, tt) is
opened_there v (serve schema address sessions) slot name there is = served_there v schema slot name there is
opened_there v (post schema address input) slot name there is = posted_there v schema input slot name there is
opened_there v (client schema address state channels) slot name there is = client_there v schema state slot name there is
opened_there v (layers old new type) slot name there is = named_there v (codec.layers old new type).reads slot name (there.0, (there.1, tt)) is
opened_there v (calls schema input) slot name there is = named_there v (calling.calls schema input).reads slot name (there.0, (there.1, tt)) is

-- no name was opened in vain, where each that may be is there
module _ (P : Event → Type 0) (s : Outside) (there : (slot : Slot) (name : List ℕ) → P (opened slot name false) → IsThere name s.view) where
  not_missing : (e : Event) → P e → IsMissing s e → ⊥
  not_missing (opened slot name true) is lacks = lacks
  not_missing (opened slot name false) is lacks = lacks (there slot name is)
  not_missing (took slot bytes) is lacks = lacks
  not_missing (ended slot) is lacks = lacks
  not_missing (read_failed slot) is lacks = lacks
  not_missing (created out name ok) is lacks = lacks
  not_missing (put out bytes) is lacks = lacks
  not_missing (write_failed out) is lacks = lacks
  not_missing (listened address ok) is lacks = lacks
  not_missing (connected address ok) is lacks = lacks
  not_missing (accepted ok) is lacks = lacks
  not_missing (told moment) is lacks = lacks

pub requests_read_files : RequestsReadFiles
requests_read_files r t status s n h f reliable there e =
    let failed = explained_by t status ReadFault (request_explains r t status h) e in
    never (IsOfRequest r) (IsMissing s) (not_missing (IsOfRequest r) s (λ slot name is. opened_there s.view r slot name there is)) t (request_touches r t status h) (reads_fail_alone t s n f reliable failed)

pub words_read_files : WordsReadFiles
words_read_files words t status s n h f reliable r asks there e =
    let failed = ((words_have_cause words t status h).read e).1 in
    never (IsOfRequest r) (IsMissing s) (not_missing (IsOfRequest r) s (λ slot name is. opened_there s.view r slot name there is)) t ((words_touch words t status h).of_request r asks) (reads_fail_alone t s n f reliable failed)

-- ---- lines for which there is room

module _ (P : Event → Type 0) (apart : (out : Out) (name : List ℕ) (ok : Bool) → P (created out name ok) → out ≢ outs.Errors) where
  uncreated : (e : Event) → P e → IsUncreated e
  uncreated (opened slot name ok) is = tt
  uncreated (took slot bytes) is = tt
  uncreated (ended slot) is = tt
  uncreated (read_failed slot) is = tt
  uncreated (created out name ok) is = apart out name ok is
  uncreated (put out bytes) is = tt
  uncreated (write_failed out) is = tt
  uncreated (listened address ok) is = tt
  uncreated (connected address ok) is = tt
  uncreated (accepted ok) is = tt
  uncreated (told moment) is = tt

  all_uncreated : (t : List Event) → Throughout P t → Throughout IsUncreated t
  all_uncreated t all = throughout_as P IsUncreated uncreated t all

client_creates : (state : List ℕ) (out : Out) (name : List ℕ) → IsCreatedByClient state out name → out ≢ outs.Errors
client_creates state outs.Output name is e = is
client_creates state outs.Errors name is e = is
client_creates state outs.State name is e = cc
client_creates state outs.Link name is e = is

creates_none : (r : RequestText) (out : Out) (name : List ℕ) (ok : Bool) → IsOfRequest r (created out name ok) → out ≢ outs.Errors
creates_none (check schema) out name ok is = absurd is
creates_none (decode schema type input) out name ok is = absurd is
creates_none (encode schema type input) out name ok is = absurd is
creates_none (replay schema journal clients) out name ok is = absurd is
creates_none (make schema number steps) out name ok is = absurd is
creates_none (serve schema address sessions) out name ok is = absurd is
creates_none (post schema address input) out name ok is = absurd is
creates_none (client schema address state channels) out name ok is = client_creates state out name is
creates_none (layers old new type) out name ok is = absurd is
creates_none (calls schema input) out name ok is = absurd is

telling_creates : (t : List Event) → Throughout IsTelling t → Throughout IsUncreated t
telling_creates t all = all_uncreated IsTelling (λ out name ok is. absurd is) t all

words_create : (words : List (List ℕ)) (t : List Event) (status : Status) → RunsWords words t status → Throughout IsUncreated t
words_create words t status (no_request none h) = telling_creates t (telling usage_line Usage status t h)
words_create words t status (requested r asks h) = all_uncreated (IsOfRequest r) (creates_none r) t (request_touches r t status h)
words_create words t status (no_memory h) = telling_creates t (telling memory_line Memory status t h)

pub requests_are_told : RequestsAreTold
requests_are_told r t status s n h f = lines_stand t s n (all_uncreated (IsOfRequest r) (creates_none r) t (request_touches r t status h)) f

pub words_are_told : WordsAreTold
words_are_told words t status s n h f = lines_stand t s n (words_create words t status h) f

-- ---- over a keeper

stored_create : (words : List (List ℕ)) (t : List Act) (status : KeptStatus) → RunsStored words t status → Throughout IsUncreated (events_in t)
stored_create words t status (no_keep none h) =
    let (events, is, tells) = h.does in
    let all : events_in t ≡ events = ap events_in (h.splits ∙ ap (λ (l : List Act). h.first ++ l) h.goes.0 ∙ append-nil h.first) ∙ hosted_events h.first events is in
    subst (Throughout IsUncreated) (sym all) (telling_creates events (telling usage_line Usage h.between events tells))
stored_create words t status (kept k asks h) =
    all_uncreated (IsOfServe k.schema k.address) (λ out name ok is. absurd is) (events_in t) (keep_touches k.schema k.address k.sessions t status h)

pub stored_are_told : StoredAreTold
stored_are_told words t status s n h f = lines_stand (events_in t) s n (stored_create words t status h) f

-- the usage line is told with its own status
unasked_read : (t : List Act) (status : KeptStatus) → Last (Tells usage_line Usage) t status → status ≢ Run ReadFault
unasked_read t status h e =
    let (events, is, tells) = h.does in
    let same : Run ReadFault ≡ Run Usage = sym e ∙ h.goes.1 ∙ ap (λ (x : Status). Run x) (told_status usage_line Usage events h.between tells) in
    cc

module _ (words : List (List ℕ)) (k : KeepText) (t : List Act) (status : KeptStatus) (s n : Outside) (asks : AsksToKeep words k) (f : Fits (events_in t) s n) (reliable : IsReliable s) (there : IsThere k.schema s.view) where
  stored_read : RunsStored words t status → status ≢ Run ReadFault
  stored_read (no_keep none h) e = unasked_read t status h e
  stored_read (kept j also h) e =
      let failed : ReadFailed (events_in t) = subst (λ (x : KeptStatus). ExplainsKept x t) e (keep_has_cause j.schema j.address j.sessions t status h) in
      let here : IsThere j.schema s.view = subst (λ (x : KeepText). IsThere x.schema s.view) (sym (one_keep words j k also asks)) there in
      never (IsOfServe j.schema j.address) (IsMissing s) (not_missing (IsOfServe j.schema j.address) s (λ slot name is. served_there s.view j.schema slot name here is)) (events_in t) (keep_touches j.schema j.address j.sessions t status h)
      (reads_fail_alone (events_in t) s n f reliable failed)

pub stored_read_files : StoredReadFiles
stored_read_files words k t status s n asks h f reliable there = stored_read words k t status s n asks f reliable there h
