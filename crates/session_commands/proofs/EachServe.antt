-- Each `serve` whose schema is there has an answer.
use Rattle.std.proofs.Common.{◌≡◌, ℕ, zero, suc, ℤ, ◌<◌, ◌^◌, List, [], ◌∷◌, ◌++◌, length, get_or, Option, Some, None, Ok, Err, refl, ap, subst, codes, inl, inr, arith}
use Rattle.std.specs.Prelude.{⊤}
use Rattle.std.specs.FinMap as map
use Rattle.std.specs.List.{All, AllByRecursion}
use Rattle.tl_numbers.specs.Bytes.{AreBytes, ListsOfBytes}
use Rattle.tl_base.specs.Packets.{packet}
use Rattle.tl_base.specs.declared.packet.PacketCause.{PacketCause}
use Rattle.tl_types.proofs.Numbers.{begins_word}
use Rattle.box_events.specs.declared.positions.Receipt.{Receipt}
use Rattle.box_events.specs.declared.replies.Frame.{Frame}
use Rattle.box_events.specs.declared.requests.Numbered.{Numbered}
use Rattle.box_events.specs.declared.requests.Post.{Post}
use Rattle.box_events.specs.declared.requests.Request.{Request}
use Rattle.box_events.specs.declared.requests.Request.TheVariants as request
use Rattle.box_server.specs.Posting.{posted}
use Rattle.box_server.specs.Receiving.{answer_by}
use Rattle.box_server.specs.Refusing.{post_cause}
use Rattle.box_server.specs.Servers.{ServerState, dated_at, new_server}
use Rattle.box_server.specs.Sound.{IsSound}
use Rattle.box_server.specs.declared.fault.PostFault.{PostFault}
use Rattle.box_server.proofs.NewServers.{sound_new}
use Rattle.box_server.proofs.Soundness.{dated_sound, post_sound, posted_sound}
use Rattle.box_server.specs.declared.entry.Entry.{Entry}
use Rattle.wire_profile.specs.declared.wire_fault.WireFault.{WireFault}
use Rattle.wire_profile.specs.Indexes.{ProfileView}
use Rattle.wire_profile.specs.Profiles.{IsProfile}
use Rattle.wire_values.specs.Calls.{call_in, call_tree}
use Rattle.wire_values.specs.Carried.{FitsCall, FitsPost, FitsRequest}
use Rattle.wire_values.specs.CarriedFrames.{FitsFrame, IsFrame, IsWord}
use Rattle.wire_values.specs.Frames.{frame_in, frame_tree}
use Rattle.wire_values.proofs.FitFrames.{frame_fits}
use Rattle.box_wire.specs.Kinds.{calls, frames}
use Rattle.box_wire.specs.Framing.{WireRefused}
use Rattle.box_wire.proofs.CallLaws.{call_laws}
use Rattle.box_wire.proofs.FrameLaws.{frame_laws}
use Rattle.box_wire.proofs.ReadBack.{are_spelled}
use Rattle.box_world.proofs.MessagesFit.{call_in_fits}
use Rattle.box_world.proofs.SpelledMessages.{meant_fit}
use Rattle.box_world.specs.Spelled.{FitsServer}
use Rattle.box_world.proofs.FittingFrames.{answers_have, pushes_have, refusals_have}
use Rattle.box_world.proofs.FittingServers.{receipt_fits, servers_keep}
use Rattle.update_sessions.specs.declared.fault.SessionFault.TheVariants as fault
use Rattle.update_sessions.specs.declared.fault.TheConstants.{MAX_FRAMES}
use Rattle.update_sessions.specs.Packed.{Came, MeansCall, NoPacket, Packed, SpellsFrame}
use Rattle.update_sessions.specs.Exchanges.{Exchanged, TakesAll, after_all, sends_all}
use Rattle.update_sessions.specs.Heard.{NoFrame}
use Rattle.update_sessions.specs.Kept.{kept_in}
use Rattle.update_sessions.specs.Receiving.{RefusedPacket}
use Rattle.update_sessions.specs.Serving.{after_request, posted_frames, sent_for, server_side}
use Rattle.fault_lines.specs.Messages.{wire_line}
use Rattle.fault_lines.proofs.Profiled.{each_profiled}
use Rattle.fault_lines.specs.Packets.{packet_line}
use Rattle.session_commands.specs.Post.{IsWordLong}
use Rattle.session_commands.specs.SessionEnds.{many_frames_line}
use Rattle.session_commands.specs.Serve.{SessionEnd, served, peer_fault, IsWhole, OfSessions, ServesAreAnswered, Session, Sessions, Total, no_sessions, total_answer, with_session}
use Rattle.session_commands.proofs.EachPost.{begins_so, each_message}
use Rattle.session_commands.proofs.OneReply.{body_bytes}
use Rattle.session_commands.proofs.OneExchange.{rest_bytes}
use Rattle.session_commands.proofs.OneTotal.{given_bytes}

both_all : {A : Type 0} (P : A → Type 0) (xs ys : List A) → AllByRecursion P xs → AllByRecursion P ys → AllByRecursion P (xs ++ ys)
both_all P [] ys h k = k
both_all P (x ∷ xs) ys h k = (h.0, both_all P xs ys h.1 k)

-- ---- what a server sends

-- a sound server of which each part has a spelling
record IsGood (s : ServerState) : Type 0 where
  sound : IsSound s
  fits : FitsServer s

good_new : IsGood new_server
good_new = record { sound = sound_new; fits = servers_keep.new }

good_dated : (s : ServerState) (now : ℕ) → IsGood s → now < 2 ^ 31 → IsGood (dated_at s now)
good_dated s now h few = record { sound = dated_sound s now h.sound few; fits = servers_keep.date s now h.fits }

after_good : (s : ServerState) (r : Request) → IsGood s → FitsRequest r → IsGood (after_request s r)
after_good s request.State h fits = h
after_good s (request.Difference pts qts date) h fits = h
after_good s (request.Channel id pts) h fits = h
after_good s (request.Post random_id posts) h fits = record { sound = post_sound s random_id posts h.sound; fits = servers_keep.post s random_id posts h.fits h.sound fits.1.1 }

posted_fit : (s : ServerState) (n : ℕ) (random_id : ℤ) (posts : List Post) → IsGood s → IsWord n → All FitsPost posts → (o : Option Receipt) → map.get s.receipts random_id ≡ o → (k : Option PostFault) → post_cause s posts ≡ k
    → AllByRecursion FitsFrame (posted_frames n (answer_by s random_id posts o k))
posted_fit s n random_id posts h word all (Some receipt) at k is = ((word, h.fits.receipts random_id receipt at), tt)
posted_fit s n random_id posts h word all None at (Some f) is = (refusals_have n f word, tt)
posted_fit s n random_id posts h word all None at None is = ((word, receipt_fits (posted s random_id posts) (posted_sound s random_id posts h.sound is)), (pushes_have s posts h.sound all is, tt))

sent_fit : (s : ServerState) (n : ℕ) (r : Request) → IsGood s → IsWord n → FitsRequest r → AllByRecursion FitsFrame (sent_for s n r)
sent_fit s n request.State h word fits = (answers_have s n request.State h.fits h.sound word, tt)
sent_fit s n (request.Difference pts qts date) h word fits = (answers_have s n (request.Difference pts qts date) h.fits h.sound word, tt)
sent_fit s n (request.Channel id pts) h word fits = (answers_have s n (request.Channel id pts) h.fits h.sound word, tt)
sent_fit s n (request.Post random_id posts) h word fits = posted_fit s n random_id posts h word fits.1.1 (map.get s.receipts random_id) refl (post_cause s posts) refl

module _ (p : ProfileView) (good : IsProfile p) where
  all_sent : (s : ServerState) (cs : List Numbered) → IsGood s → AllByRecursion FitsCall cs → AllByRecursion FitsFrame (sends_all (server_side p) s cs)
  all_sent s [] h fits = tt
  all_sent s (c ∷ cs) h fits =
      both_all FitsFrame (sent_for s c.number c.request) (sends_all (server_side p) (after_request s c.request) cs) (sent_fit s c.number c.request h fits.0.0 fits.0.1)
      (all_sent (after_request s c.request) cs (after_good s c.request h fits.0.1) fits.1)

  good_after : (s : ServerState) (cs : List Numbered) → IsGood s → AllByRecursion FitsCall cs → IsGood (after_all (server_side p) s cs)
  good_after s [] h fits = h
  good_after s (c ∷ cs) h fits = good_after (after_request s c.request) cs (after_good s c.request h fits.0.1) fits.1

  all_taken : (s : ServerState) (cs : List Numbered) → TakesAll (server_side p) s cs
  all_taken s [] = tt
  all_taken s (c ∷ cs) = (tt, all_taken (after_request s c.request) cs)

  each_packed : (fs : List Frame) → AllByRecursion FitsFrame fs → (out : List ℕ) × Packed (SpellsFrame p) fs out
  each_packed [] all = ([], refl)
  each_packed (f ∷ fs) all =
      let first = are_spelled frames frame_tree frame_in IsFrame FitsFrame frame_laws frame_fits p good f all.0 in
      let rest = each_packed fs all.1 in
      (packet first.0 ++ rest.0, (first.0, rest.0, first.1, refl, rest.1))

  -- ---- what comes

  -- why no call follows after so many, of which a session takes n
  data RowEnd (left : List ℕ) (n k : ℕ) : Type 0 where
    full : k ≡ n → RowEnd left n k
    empty : k < n → left ≡ [] → RowEnd left n k
    none : k < n → (f : PacketCause) (line : List ℕ) → NoPacket left f → IsWordLong f → packet_line f ≡ line → RowEnd left n k
    refused : k < n → (f : WireFault) → RefusedPacket (WireRefused p calls) left f → RowEnd left n k

  record Row (n : ℕ) (bytes : List ℕ) : Type 0 where
    came_calls : List Numbered
    left : List ℕ
    came : Came (MeansCall p) bytes came_calls left
    fit : AllByRecursion FitsCall came_calls
    ends : RowEnd left n (length came_calls)

  one_on : (left : List ℕ) (n k : ℕ) → RowEnd left n k → RowEnd left (suc n) (suc k)
  one_on left n k (full is) = full (omega (arith, is))
  one_on left n k (empty less is) = empty (omega (arith, less)) is
  one_on left n k (none less f line h few tells) = none (omega (arith, less)) f line h few tells
  one_on left n k (refused less f h) = refused (omega (arith, less)) f h

  none_row : (n : ℕ) (bytes : List ℕ) (f : PacketCause) (line : List ℕ) → NoFrame bytes f → IsWordLong f → packet_line f ≡ line → Row (suc n) bytes
  none_row n bytes f line (inl (is, at)) few tells = record { came_calls = []; left = bytes; came = refl; fit = tt; ends = empty (omega arith) is }
  none_row n bytes f line (inr h) few tells = record { came_calls = []; left = bytes; came = refl; fit = tt; ends = none (omega arith) f line h few tells }

  each_row : (n : ℕ) (bytes : List ℕ) → AreBytes bytes → Row n bytes
  each_row zero bytes are = record { came_calls = []; left = bytes; came = refl; fit = tt; ends = full refl }
  each_row (suc n) bytes are =
      elim (begins_so bytes (begins_word bytes are)) as (λ z. Row (suc n) bytes) [
        | inl b ↦ elim (each_message p good calls tt call_tree call_in (λ _. ⊤) call_laws b.body (body_bytes bytes b.body b.rest b.parts are)) as (λ z. Row (suc n) bytes) [
          | inl m ↦
              (let row = each_row n b.rest (rest_bytes bytes b.body b.rest b.parts are) in
              record {
                came_calls = m.0 ∷ row.came_calls;
                left = row.left;
                came = (b.body, b.rest, b.fits, b.parts, m.2, row.came);
                fit = (meant_fit calls call_tree call_in (λ _. ⊤) call_laws FitsCall call_in_fits p good m.0 b.body tt m.2, row.fit);
                ends = one_on row.left n (length row.came_calls) row.ends;
              })
          | inr r ↦ record {
            came_calls = [];
            left = bytes;
            came = refl;
            fit = tt;
            ends = refused (omega arith) r.0 (record { body = b.body; rest = b.rest; fits = b.fits; parts = b.parts; refused = r.1 });
          }
        ]
        | inr b ↦ none_row n bytes b.fault b.line b.none b.few b.tells
      ]

  -- ---- sessions

  record Serving (s : ServerState) (now : ℕ) (bytes : List ℕ) : Type 0 where
    out : List ℕ
    server : ServerState
    more : List Entry
    ended : SessionEnd
    session : Session p s now bytes out server more ended
    whole : IsWhole ended
    stays : IsGood server

  each_session : (s : ServerState) (now : ℕ) (bytes : List ℕ) → IsGood s → now < 2 ^ 31 → AreBytes bytes → Serving s now bytes
  each_session s now bytes h few are =
      let d = dated_at s now in
      let dated = good_dated s now h few in
      let row = each_row MAX_FRAMES bytes are in
      let sent = each_packed (sends_all (server_side p) d row.came_calls) (all_sent d row.came_calls dated row.fit) in
      let t = after_all (server_side p) d row.came_calls in
      let stays = good_after d row.came_calls dated row.fit in
      let ex : Exchanged (server_side p) d bytes row.left sent.0 t row.came_calls = record { came = row.came; taken = all_taken d row.came_calls; wrote = sent.1; ends = refl } in
      elim row.ends as (λ z. Serving s now bytes) [
        | full is ↦ record {
          out = sent.0;
          server = t;
          more = kept_in d row.came_calls;
          ended = peer_fault many_frames_line;
          session = record { answer = Err fault.TooManyFrames; calls = row.came_calls; serves = (row.left, ex, is); entries = refl; word = tt; ended = refl };
          whole = tt;
          stays = stays;
        }
        | empty less is ↦ record {
          out = sent.0;
          server = t;
          more = kept_in d row.came_calls;
          ended = served (length row.came_calls);
          session = record { answer = Ok (length row.came_calls); calls = row.came_calls; serves = (subst (λ (l : List ℕ). Exchanged (server_side p) d bytes l sent.0 t row.came_calls) is ex, refl, less); entries = refl; word = tt; ended = refl };
          whole = tt;
          stays = stays;
        }
        | none less f line lacks word tells ↦ record {
          out = sent.0;
          server = t;
          more = kept_in d row.came_calls;
          ended = peer_fault line;
          session = record { answer = Err (fault.Packet f); calls = row.came_calls; serves = (row.left, ex, less, lacks); entries = refl; word = word; ended = ap peer_fault tells };
          whole = tt;
          stays = stays;
        }
        | refused less f lacks ↦ record {
          out = sent.0;
          server = t;
          more = kept_in d row.came_calls;
          ended = peer_fault (wire_line (codes "peer") f);
          session = record { answer = Err (fault.Wire f); calls = row.came_calls; serves = (row.left, ex, less, lacks); entries = refl; word = tt; ended = refl };
          whole = tt;
          stays = stays;
        }
      ]

  module _ (given : List (List ℕ)) (all : ListsOfBytes given) (moments : List ℕ) (few : (k : ℕ) → get_or moments k 0 < 2 ^ 31) where
    record HasTotal (k : ℕ) : Type 0 where
      total : Total
      sessions : Sessions IsWhole p new_server given moments k total
      stays : IsGood total.server

    each_total : (k : ℕ) → HasTotal k
    each_total zero = record { total = no_sessions new_server; sessions = refl; stays = good_new }
    each_total (suc k) =
        let h = each_total k in
        let one = each_session h.total.server (get_or moments k 0) (get_or given k []) h.stays (few k) (given_bytes given all k) in
        record {
          total = with_session k one.ended one.out one.server one.more h.total;
          sessions = (h.total, one.ended, one.out, one.server, one.more, h.sessions, one.whole, one.session, refl);
          stays = one.stays;
        }

few_moments : (moments : List ℕ) → AllByRecursion (λ m. m < 2 ^ 31) moments → (k : ℕ) → get_or moments k 0 < 2 ^ 31
few_moments [] all zero = omega arith
few_moments [] all (suc k) = omega arith
few_moments (m ∷ ms) all zero = all.0
few_moments (m ∷ ms) all (suc k) = few_moments ms all.1 k

pub each_serve : ServesAreAnswered
each_serve files hold given bytes moments few schema address n text =
    each_profiled (OfSessions new_server address IsWhole n given moments) (λ p good. (let t = each_total p good given bytes moments (few_moments moments few) n in (total_answer address n t.total, (t.total, t.sessions, refl)))) files schema
    text
