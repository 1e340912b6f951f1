-- How runs of words end over an outside that shows what it holds: as the runs of their requests' jobs.
use Rattle.std.proofs.Common.{◌≡◌, ℕ, List, [], append-nil, refl, sym, ◌∙◌, subst, inl, inr}
use Rattle.tl_base.specs.Outside.{View}
use Rattle.outside.specs.Answer.{Answer, memory_line}
use Rattle.outside.specs.Jobs as jobs
use Rattle.outside.specs.Kept.{OnlyErrors}
use Rattle.outside.specs.Sound.{IsFault}
use Rattle.outside.specs.declared.status.Status.{Status}
use Rattle.outside.specs.declared.status.Status.TheVariants.{Usage, ReadFault, WriteFault, Memory, LinkFault}
use Rattle.outside.specs.Events.{Event, Outside}
use Rattle.outside.specs.Pieces as pieces
use Rattle.outside.proofs.Causing.{told_status}
use Rattle.outside.specs.Fits.{Fits}
use Rattle.outside.specs.Reliable.{IsReliable}
use Rattle.commands.specs.Requests.{RequestText, AsksFor, AsksNothing, check, decode, encode, replay, make, serve, post, client, layers, calls}
use Rattle.commands.specs.Usage.{usage_line}
use Rattle.commands.specs.Work.{RunsRequest, RunsWords, no_request, requested, no_memory, outs_of, work_of}
use Rattle.commands.proofs.Rows.{one_request}
use Rattle.run_laws.specs.Answers.{usage}
use Rattle.run_laws.specs.Answers as answers
use Rattle.run_laws.specs.Ended.{Ended, IsShown, LinkFailed, StopsIn}
use Rattle.run_laws.specs.Ended as job
use Rattle.run_laws.specs.Requests.{ReadsBytesFor, ShowsBytesFor, job_of}
use Rattle.run_laws.specs.Runs.{AnswerFits, Ends, Keeps, MayAnswer, RequestsEnd, StopsAfter, WordsAreSound, WordsEnd, WordsKeep, answered, read_failed, read_failed_later, write_failed, link_failed, out_of_memory, out_of_memory_later, out_of_memory_told}
use Rattle.run_laws.proofs.OneAnswer.{answer_to}
use Rattle.run_laws.proofs.Told.{tells_line, only_errors, output_kept, leaves_all}
use Rattle.run_laws.proofs.Touching.{telling}
use Rattle.run_laws.proofs.Kept as kept
use Rattle.run_laws.proofs.files.Called as called
use Rattle.run_laws.proofs.files.Checked as checked
use Rattle.run_laws.proofs.files.Compared as compared
use Rattle.run_laws.proofs.files.Decoded as decoded
use Rattle.run_laws.proofs.files.Encoded as encoded
use Rattle.run_laws.proofs.files.Made as made
use Rattle.run_laws.proofs.files.Replayed as replayed
use Rattle.run_laws.proofs.Recovering as recovered
use Rattle.run_laws.proofs.links.PostRuns as posted
use Rattle.run_laws.proofs.serving.ServeRuns as served

-- ---- an outside that shows what it holds shows what each request needs

reads_for : (r : RequestText) (v : View) → IsShown v → ReadsBytesFor v r
reads_for (check schema) v shown = tt
reads_for (decode schema type input) v shown = tt
reads_for (encode schema type input) v shown = tt
reads_for (replay schema journal clients) v shown = tt
reads_for (make schema number steps) v shown = tt
reads_for (serve schema address sessions) v shown = tt
reads_for (post schema address input) v shown = tt
reads_for (client schema address state channels) v shown = tt
reads_for (layers old new type) v shown = tt
reads_for (calls schema input) v shown = shown.bytes.files

shows_for : (r : RequestText) (v : View) → IsShown v → ShowsBytesFor v r
shows_for (check schema) v shown = tt
shows_for (decode schema type input) v shown = tt
shows_for (encode schema type input) v shown = tt
shows_for (replay schema journal clients) v shown = shown.bytes.files
shows_for (make schema number steps) v shown = tt
shows_for (serve schema address sessions) v shown = shown.bytes
shows_for (post schema address input) v shown = shown.bytes
shows_for (client schema address state channels) v shown = shown.bytes
shows_for (layers old new type) v shown = tt
shows_for (calls schema input) v shown = shown.bytes.files

-- ---- a request's run is its job's

pub runs_job : RequestsEnd
runs_job (check schema) = checked.check_runs schema
runs_job (decode schema type input) = decoded.decode_runs schema type input
runs_job (encode schema type input) = encoded.encode_runs schema type input
runs_job (replay schema journal clients) = replayed.replay_runs schema journal clients
runs_job (make schema number steps) = made.make_runs schema number steps
runs_job (serve schema address sessions) = served.serve_runs schema address sessions
runs_job (post schema address input) = posted.post_runs schema address input
runs_job (client schema address state channels) = recovered.client_runs schema address state channels
runs_job (layers old new type) = compared.layers_runs old new type
runs_job (calls schema input) = called.calls_runs schema input

module _ (words : List (List ℕ)) (r : RequestText) (asks : AsksFor words r) (t : List Event) (status : Status) (v w : View) where
  may : (a : Answer) → jobs.MayAnswer (job_of r) (LinkFailed t) v a → MayAnswer words (LinkFailed t) v a
  may a (inl is) = inl (answers.requested r asks is)
  may a (inr (failed, broken)) = inr (failed, r, asks, broken)

  abbrev stops : (line : List ℕ) → StopsIn (job_of r) t line v w → StopsAfter words t line v w
  stops line h = record { request = r; asked = asks; stops = h }

  ends_as : Ended (job_of r) t status v w → Ends words t status v w
  ends_as (job.answered a is ends output leaves tells) = answered a (may a is) ends output leaves tells
  ends_as (job.read_failed rose is output tells) = read_failed (r, asks) rose is output tells
  ends_as (job.read_failed_later rose is h on) = read_failed_later rose is (stops _ h) on
  ends_as (job.write_failed rose is h) = write_failed rose is (stops _ h)
  ends_as (job.link_failed rose is h) = link_failed rose is (stops _ h)
  ends_as (job.out_of_memory is output tells) = out_of_memory is output tells
  ends_as (job.out_of_memory_later is h on) = out_of_memory_later is (stops _ h) on
  ends_as (job.out_of_memory_told is u before told tells) = out_of_memory_told is r asks tells u before told

-- ---- a request's run

module _ (words : List (List ℕ)) (t : List Event) (status : Status) (s n : Outside) (shown : IsShown s.view) (f : Fits t s n) where
  abbrev Ending : Type 0
  Ending = Ends words t status s.view n.view

  request_ends : (r : RequestText) → AsksFor words r → RunsRequest r t status → Ending
  request_ends r asks h = ends_as words r asks t status s.view n.view ((runs_job r).ends t status s n (reads_for r s.view shown) h f)

-- ---- a line alone

-- words of no request have the usage line for an answer
usage_ends : (words : List (List ℕ)) (t : List Event) (status : Status) (s n : Outside) → AsksNothing words → pieces.Tells usage_line Usage t status → Fits t s n → Ends words t status s.view n.view
usage_ends words t status s n none h f =
    let only = only_errors t s n (telling usage_line Usage status t h) f in
    answered usage (inl (answers.no_request none refl)) (told_status usage_line Usage t status h) (output_kept s.view n.view only ∙ sym (append-nil s.view.written.output)) (leaves_all Usage [] usage_line s.view n.view only) (tells_line usage_line Usage status t s n h f)

memory_ends : (words : List (List ℕ)) (t : List Event) (status : Status) (s n : Outside) → pieces.Tells memory_line Memory t status → Fits t s n → Ends words t status s.view n.view
memory_ends words t status s n h f =
    out_of_memory (told_status memory_line Memory t status h) (output_kept s.view n.view (only_errors t s n (telling memory_line Memory status t h) f)) (tells_line memory_line Memory status t s n h f)

-- ---- the laws

ended : (words : List (List ℕ)) (t : List Event) (status : Status) (s n : Outside) → IsShown s.view → Fits t s n → RunsWords words t status → Ends words t status s.view n.view
ended words t status s n shown f (no_request none h) = usage_ends words t status s n none h f
ended words t status s n shown f (requested r asks h) = request_ends words t status s n shown f r asks h
ended words t status s n shown f (no_memory h) = memory_ends words t status s n h f

pub words_end : WordsEnd
words_end words t status s n over = ended words t status s n over.shown over.fits over.runs

-- ---- what is kept

-- a line alone is all that a job leaves to Errors
keeps_line : (r : RequestText) (v w : View) → OnlyErrors v w → (job_of r).keeps v w
keeps_line r v w is = kept.job_keeps v w is r

kept_by : (words : List (List ℕ)) (t : List Event) (status : Status) (s n : Outside) → IsShown s.view → Fits t s n → RunsWords words t status → Keeps words s.view n.view
kept_by words t status s n shown f (no_request none h) = record { of_none = λ _. only_errors t s n (telling usage_line Usage status t h) f; of_request = λ r asks. absurd (none r asks) }
kept_by words t status s n shown f (requested r asks h) = record {
  of_none = λ none. absurd (none r asks);
  of_request = λ x also. subst (λ (y : RequestText). (job_of y).keeps s.view n.view) (one_request words r x asks also) ((runs_job r).keeps t status s n h f);
}
kept_by words t status s n shown f (no_memory h) =
    let only = only_errors t s n (telling memory_line Memory status t h) f in
    record { of_none = λ _. only; of_request = λ r asks. keeps_line r s.view n.view only }

pub words_keep : WordsKeep
words_keep words t status s n over = kept_by words t status s n over.shown over.fits over.runs

-- ---- no faults

no_fault : (status is : Status) → status ≡ is → IsFault status → (is ≡ ReadFault → ⊥) → (is ≡ WriteFault → ⊥) → (is ≡ LinkFault → ⊥) → ⊥
no_fault status is same (inl e) read write link = read (sym same ∙ e)
no_fault status is same (inr (inl e)) read write link = write (sym same ∙ e)
no_fault status is same (inr (inr e)) read write link = link (sym same ∙ e)

sound_by : (words : List (List ℕ)) (t : List Event) (status : Status) (s n : Outside) → IsShown s.view → Fits t s n → RunsWords words t status → IsReliable s → AnswerFits words s.view → IsFault status → ⊥
sound_by words t status s n shown f (no_request none h) reliable fits fault = no_fault status Usage (told_status usage_line Usage t status h) fault (λ e. cc) (λ e. cc) (λ e. cc)
sound_by words t status s n shown f (requested r asks h) reliable fits fault =
    (runs_job r).sound t status s n (shows_for r s.view shown) h f reliable (fits.0, answer_to words s.view r fits.0 asks fits.1, fits.2) fault
sound_by words t status s n shown f (no_memory h) reliable fits fault = no_fault status Memory (told_status memory_line Memory t status h) fault (λ e. cc) (λ e. cc) (λ e. cc)

pub words_are_sound : WordsAreSound
words_are_sound words t status s n over reliable fits fault = sound_by words t status s n over.shown over.fits over.runs reliable fits fault
