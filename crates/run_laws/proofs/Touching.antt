-- What runs of words touch, and why they end by a fault.
use Rattle.std.proofs.Common.{◌≡◌, ◌≢◌, ℕ, List, [], ◌∷◌, true, false, Some, None, refl, sym, ◌∙◌, subst, inl, inr}
use Rattle.tl_base.specs.Kinds.{out_kind, slot_kind}
use Rattle.tl_base.specs.declared.counts.Kind.{Kind}
use Rattle.tl_base.specs.declared.counts.Kind.TheVariants.{Links}
use Rattle.tl_base.specs.declared.host.Out.{Out}
use Rattle.tl_base.specs.declared.host.Out.TheVariants as outs
use Rattle.tl_base.specs.declared.host.Slot.{Slot}
use Rattle.tl_base.specs.declared.host.Slot.TheVariants as slots
use Rattle.outside.specs.Answer.{memory_line}
use Rattle.outside.specs.declared.status.Status.{Status}
use Rattle.outside.specs.declared.status.Status.TheVariants.{Usage, ReadFault, WriteFault, Memory, LinkFault, PeerFault}
use Rattle.outside.specs.Events.{Event, opened, took, ended, read_failed, created, put, write_failed, listened, connected, accepted, told}
use Rattle.outside.specs.Laws.{Explains, Happened, IsFailure, IsFromLink, Throughout}
use Rattle.outside.specs.Pieces.{Tells}
use Rattle.outside.proofs.Causing.{keeps_tell, told_status}
use Rattle.codec_rooms.specs.Commands as codec
use Rattle.codec_rooms.specs.Laws.{IsOf, IsPrinted, IsRead, Named}
use Rattle.codec_rooms.proofs.Checking as checking
use Rattle.codec_rooms.proofs.DecodingLaws as decoding
use Rattle.codec_rooms.proofs.EncodingLaws as encoding
use Rattle.codec_rooms.proofs.LayeringLaws as layering
use Rattle.call_commands.specs.Commands as calling
use Rattle.call_commands.proofs.CallingLaws as calling_laws
use Rattle.update_commands.specs.Commands as updating
use Rattle.update_commands.proofs.MakingLaws as making
use Rattle.update_commands.proofs.ReplayingLaws as replaying
use Rattle.session_rooms.proofs.ClientLaws as recovering
use Rattle.session_rooms.proofs.PostLaws as posting
use Rattle.serve_rooms.proofs.ServeLaws as serving
use Rattle.commands.specs.Requests.{RequestText, AsksFor, AsksNothing, check, decode, encode, replay, make, serve, post, client, layers, calls}
use Rattle.commands.specs.Work.{RunsRequest, RunsWords, no_request, requested, no_memory}
use Rattle.commands.proofs.Rows.{one_request}
use Rattle.run_laws.specs.Requests.{job_of}
use Rattle.run_laws.specs.Touched.{Explained, IsOfRequest, IsTelling, IsUnlinked, RequestsHaveCause, RequestsTouch, WordsHaveCause, WordsLeaveLinks, WordsTouch}

-- ---- what is touched

pub request_touches : RequestsTouch
request_touches (check schema) = checking.check_touches schema
request_touches (decode schema type input) = decoding.decode_touches schema type input
request_touches (encode schema type input) = encoding.encode_touches schema type input
request_touches (replay schema journal clients) = replaying.replay_touches schema journal clients
request_touches (make schema number steps) = making.make_touches schema number steps
request_touches (serve schema address sessions) = serving.serve_touches schema address sessions
request_touches (post schema address input) = posting.post_touches schema address input
request_touches (client schema address state channels) = recovering.client_touches schema address state channels
request_touches (layers old new type) = layering.layers_touches old new type
request_touches (calls schema input) = calling_laws.calls_touches schema input

-- a line may be told in each
tells_of : (r : RequestText) (line : List ℕ) (status given : Status) (t : List Event) → Tells line status t given → Throughout (IsOfRequest r) t
tells_of (check schema) line status given t h = keeps_tell (IsOfRequest (check schema)) (λ _. tt) tt line status t given h
tells_of (decode schema type input) line status given t h = keeps_tell (IsOfRequest (decode schema type input)) (λ _. tt) tt line status t given h
tells_of (encode schema type input) line status given t h = keeps_tell (IsOfRequest (encode schema type input)) (λ _. tt) tt line status t given h
tells_of (replay schema journal clients) line status given t h = keeps_tell (IsOfRequest (replay schema journal clients)) (λ _. tt) tt line status t given h
tells_of (make schema number steps) line status given t h = keeps_tell (IsOfRequest (make schema number steps)) (λ _. tt) tt line status t given h
tells_of (serve schema address sessions) line status given t h = keeps_tell (IsOfRequest (serve schema address sessions)) (λ _. tt) tt line status t given h
tells_of (post schema address input) line status given t h = keeps_tell (IsOfRequest (post schema address input)) (λ _. tt) tt line status t given h
tells_of (client schema address state channels) line status given t h = keeps_tell (IsOfRequest (client schema address state channels)) (λ _. tt) tt line status t given h
tells_of (layers old new type) line status given t h = keeps_tell (IsOfRequest (layers old new type)) (λ _. tt) tt line status t given h
tells_of (calls schema input) line status given t h = keeps_tell (IsOfRequest (calls schema input)) (λ _. tt) tt line status t given h

pub telling : (line : List ℕ) (status given : Status) (t : List Event) → Tells line status t given → Throughout IsTelling t
telling line status given t h = keeps_tell IsTelling (λ _. refl) refl line status t given h

pub words_touch : WordsTouch
words_touch words t status (no_request none h) = record { of_none = λ _. telling _ Usage status t h; of_request = λ r asks. absurd (none r asks) }
words_touch words t status (requested r asks h) = record {
  of_none = λ none. absurd (none r asks);
  of_request = λ s also. subst (λ (x : RequestText). Throughout (IsOfRequest x) t) (one_request words r s asks also) (request_touches r t status h);
}
words_touch words t status (no_memory h) = record { of_none = λ _. telling _ Memory status t h; of_request = λ r asks. tells_of r memory_line Memory status t h }

-- ---- links

abbrev AreUnlinked : Named → Type 0
AreUnlinked [] = Unit {0}
AreUnlinked (r ∷ reads) = (r.0 ≢ slots.Link) × AreUnlinked reads

read_unlinked : (reads : Named) (slot : Slot) (name : List ℕ) → AreUnlinked reads → IsRead reads slot name → slot ≢ slots.Link
read_unlinked [] slot name none is e = absurd is
read_unlinked (r ∷ reads) slot name none (inl is) e = none.0 (sym is.0 ∙ e)
read_unlinked (r ∷ reads) slot name none (inr is) e = read_unlinked reads slot name none.1 is e

printed_unlinked : (out : Out) → IsPrinted out → out ≢ outs.Link
printed_unlinked outs.Output is e = absurd cc
printed_unlinked outs.Errors is e = absurd cc
printed_unlinked outs.State is e = absurd is
printed_unlinked outs.Link is e = absurd is

of_unlinked : (reads : Named) → AreUnlinked reads → (e : Event) → IsOf reads e → IsUnlinked e
of_unlinked reads none (opened slot name ok) is = read_unlinked reads slot name none is
of_unlinked reads none (took slot bytes) is = read_unlinked reads slot is.0 none is.1
of_unlinked reads none (ended slot) is = read_unlinked reads slot is.0 none is.1
of_unlinked reads none (read_failed slot) is = read_unlinked reads slot is.0 none is.1
of_unlinked reads none (created out name ok) is = absurd is
of_unlinked reads none (put out bytes) is = printed_unlinked out is
of_unlinked reads none (write_failed out) is = printed_unlinked out is
of_unlinked reads none (listened address ok) is = absurd is
of_unlinked reads none (connected address ok) is = absurd is
of_unlinked reads none (accepted ok) is = absurd is
of_unlinked reads none (told moment) is = absurd is

all_unlinked : (reads : Named) → AreUnlinked reads → (t : List Event) → Throughout (IsOf reads) t → Throughout IsUnlinked t
all_unlinked reads none [] is = tt
all_unlinked reads none (e ∷ t) is = (of_unlinked reads none e is.0, all_unlinked reads none t is.1)

schema_unlinked : slots.Schema ≢ slots.Link
schema_unlinked e = cc

input_unlinked : slots.Input ≢ slots.Link
input_unlinked e = cc

request_unlinked : (r : RequestText) → ((job_of r).linked → ⊥) → (t : List Event) → Throughout (IsOfRequest r) t → Throughout IsUnlinked t
request_unlinked (check schema) none t is = all_unlinked (codec.check schema).reads (schema_unlinked, tt) t is
request_unlinked (decode schema type input) none t is = all_unlinked (codec.decode schema type input).reads (schema_unlinked, (input_unlinked, tt)) t is
request_unlinked (encode schema type input) none t is = all_unlinked (codec.encode schema type input).reads (schema_unlinked, (input_unlinked, tt)) t is
request_unlinked (replay schema journal clients) none t is = all_unlinked (updating.replay schema journal clients).reads (schema_unlinked, (input_unlinked, tt)) t is
request_unlinked (make schema number steps) none t is = all_unlinked (updating.make schema number steps).reads (schema_unlinked, tt) t is
request_unlinked (serve schema address sessions) none t is = absurd (none tt)
request_unlinked (post schema address input) none t is = absurd (none tt)
request_unlinked (client schema address state channels) none t is = absurd (none tt)
request_unlinked (layers old new type) none t is = all_unlinked (codec.layers old new type).reads (schema_unlinked, (input_unlinked, tt)) t is
request_unlinked (calls schema input) none t is = all_unlinked (calling.calls schema input).reads (schema_unlinked, (input_unlinked, tt)) t is

-- an event that touches no link is no failure of one, and nothing comes from there
told_unlinked : (e : Event) → IsTelling e → IsUnlinked e
told_unlinked (opened slot name ok) is = absurd is
told_unlinked (took slot bytes) is = absurd is
told_unlinked (ended slot) is = absurd is
told_unlinked (read_failed slot) is = absurd is
told_unlinked (created out name ok) is = absurd is
told_unlinked (put out bytes) is = λ e. (let both : outs.Errors ≡ outs.Link = sym is ∙ e in cc)
told_unlinked (write_failed out) is = λ e. (let both : outs.Errors ≡ outs.Link = sym is ∙ e in cc)
told_unlinked (listened address ok) is = absurd is
told_unlinked (connected address ok) is = absurd is
told_unlinked (accepted ok) is = absurd is
told_unlinked (told moment) is = absurd is

all_told : (t : List Event) → Throughout IsTelling t → Throughout IsUnlinked t
all_told [] is = tt
all_told (e ∷ t) is = (told_unlinked e is.0, all_told t is.1)

some_kind : {a b : Kind} → Some a ≡ Some b → a ≡ b
some_kind {a} {b} is = let same : Some a ≡ Some b = is in cc

slot_linked : (slot : Slot) → slot_kind slot ≡ Links → slot ≡ slots.Link
slot_linked slots.Schema is = absurd cc
slot_linked slots.Input is = absurd cc
slot_linked slots.State is = absurd cc
slot_linked slots.Link is = refl

out_linked : (out : Out) → out_kind out ≡ Links → out ≡ outs.Link
out_linked outs.Output is = absurd cc
out_linked outs.Errors is = absurd cc
out_linked outs.State is = absurd cc
out_linked outs.Link is = refl

none_some : {a : Kind} → None ≡ Some a → ⊥
none_some {a} is = let same : None ≡ Some a = is in cc

unfailed : (e : Event) → IsUnlinked e → IsFailure Links e → ⊥
unfailed (opened slot name true) un is = none_some is
unfailed (opened slot name false) un is = un (slot_linked slot (some_kind is))
unfailed (took slot bytes) un is = none_some is
unfailed (ended slot) un is = none_some is
unfailed (read_failed slot) un is = un (slot_linked slot (some_kind is))
unfailed (created out name true) un is = none_some is
unfailed (created out name false) un is = un (out_linked out (some_kind is))
unfailed (put out bytes) un is = none_some is
unfailed (write_failed out) un is = un (out_linked out (some_kind is))
unfailed (listened address ok) un is = un
unfailed (connected address ok) un is = un
unfailed (accepted ok) un is = un
unfailed (told moment) un is = none_some is

unsent : (e : Event) → IsUnlinked e → IsFromLink e → ⊥
unsent (opened slot name ok) un is = is
unsent (took slot bytes) un is = un is
unsent (ended slot) un is = un is
unsent (read_failed slot) un is = is
unsent (created out name ok) un is = is
unsent (put out bytes) un is = is
unsent (write_failed out) un is = is
unsent (listened address ok) un is = is
unsent (connected address ok) un is = is
unsent (accepted ok) un is = is
unsent (told moment) un is = is

pub never : (P Q : Event → Type 0) → ((e : Event) → P e → Q e → ⊥) → (t : List Event) → Throughout P t → Happened Q t → ⊥
never P Q apart [] all some = some
never P Q apart (e ∷ t) all (inl is) = apart e all.0 is
never P Q apart (e ∷ t) all (inr is) = never P Q apart t all.1 is

-- ---- causes

pub request_explains : RequestsHaveCause
request_explains (check schema) = checking.check_has_cause schema
request_explains (decode schema type input) = decoding.decode_has_cause schema type input
request_explains (encode schema type input) = encoding.encode_has_cause schema type input
request_explains (replay schema journal clients) = replaying.replay_has_cause schema journal clients
request_explains (make schema number steps) = making.make_has_cause schema number steps
request_explains (serve schema address sessions) = serving.serve_has_cause schema address sessions
request_explains (post schema address input) = posting.post_has_cause schema address input
request_explains (client schema address state channels) = recovering.client_has_cause schema address state channels
request_explains (layers old new type) = layering.layers_has_cause old new type
request_explains (calls schema input) = calling_laws.calls_has_cause schema input

pub explained_by : (t : List Event) (status other : Status) → Explains status t → status ≡ other → Explains other t
explained_by t status other h is = subst (λ (s : Status). Explains s t) is h

-- a status that is no fault's
unfaulted : (words : List (List ℕ)) (t : List Event) (status is : Status) → status ≡ is → is ≢ ReadFault → is ≢ WriteFault → is ≢ LinkFault → is ≢ PeerFault → (is ≡ Usage → AsksNothing words) → Explained words t status
unfaulted words t status is same read write link peer usage = record {
  read = λ e. absurd (read (sym same ∙ e));
  write = λ e. absurd (write (sym same ∙ e));
  link = λ e. absurd (link (sym same ∙ e));
  peer = λ e. absurd (peer (sym same ∙ e));
  usage = λ e. usage (sym same ∙ e);
}

memory_usage : Memory ≡ Usage → ⊥
memory_usage e = cc

pub words_have_cause : WordsHaveCause
words_have_cause words t status (no_request none h) =
    unfaulted words t status Usage (told_status _ Usage t status h) (λ e. cc) (λ e. cc) (λ e. cc) (λ e. cc) (λ _. none)
words_have_cause words t status (requested r asks h) =
    let x = request_explains r t status h in
    record {
      read = λ e. ((r, asks), explained_by t status ReadFault x e);
      write = λ e. ((r, asks), explained_by t status WriteFault x e);
      link = λ e. ((r, asks), explained_by t status LinkFault x e);
      peer = λ e. ((r, asks), explained_by t status PeerFault x e);
      usage = λ e. absurd (explained_by t status Usage x e);
    }
words_have_cause words t status (no_memory h) =
    unfaulted words t status Memory (told_status _ Memory t status h) (λ e. cc) (λ e. cc) (λ e. cc) (λ e. cc) (λ e. absurd (memory_usage e))

-- ---- words that use no links

touched_unlinked : (words : List (List ℕ)) (t : List Event) (status : Status) → RunsWords words t status → ((r : RequestText) → AsksFor words r → (job_of r).linked → ⊥) → Throughout IsUnlinked t
touched_unlinked words t status (no_request none h) unlinked = all_told t (telling _ Usage status t h)
touched_unlinked words t status (requested r asks h) unlinked = request_unlinked r (unlinked r asks) t (request_touches r t status h)
touched_unlinked words t status (no_memory h) unlinked = all_told t (telling _ Memory status t h)

pub words_leave_links : WordsLeaveLinks
words_leave_links words t status h unlinked =
    let un = touched_unlinked words t status h unlinked in
    let x = words_have_cause words t status h in
    (un, (λ e. never IsUnlinked (IsFailure Links) unfailed t un (x.link e).1), λ e. never IsUnlinked IsFromLink unsent t un (x.peer e).1)
