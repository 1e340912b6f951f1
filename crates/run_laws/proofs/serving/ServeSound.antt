-- Over a reliable outside with room for its answer `serve` ends by no fault.
use Rattle.std.proofs.Common.{◌≡◌, inl, inr, ℕ, ◌≤◌, List, [], length, append-nil, sym, ap, ◌∙◌, subst, arith}
use Rattle.std.specs.Prelude.{IfSome}
use Rattle.std.specs.List.{All}
use Rattle.tl_numbers.specs.Bytes.{ListsOfBytes}
use Rattle.tl_base.specs.Outside.{View, ShowsBytes}
use Rattle.box_server.specs.Servers.{new_server}
use Rattle.outside.specs.Answer.{Answer, memory_line}
use Rattle.outside.specs.Sound.{HasRoomFor, IsFault}
use Rattle.outside.specs.Sound as sound
use Rattle.outside.specs.declared.status.Status.TheVariants as statuses
use Rattle.fault_lines.proofs.Profiled.{are_profiles, profile_tells}
use Rattle.outside.specs.Events.{Event, Outside}
use Rattle.outside.specs.Runs as runs
use Rattle.outside.proofs.Causing.{told_status}
use Rattle.outside.specs.Fits.{Fits}
use Rattle.outside.proofs.Fitting.{fits_keeps, reliable_on}
use Rattle.session_commands.specs.Serve.{IsWhole, OfSessions, serve_job}
use Rattle.session_rooms.proofs.LeftViews.{beside}
use Rattle.serve_rooms.specs.Acts.{Act, events_in}
use Rattle.serve_rooms.specs.Doing.{to_serve}
use Rattle.serve_rooms.specs.Serve.{OfProfiled, serves}
use Rattle.serve_rooms.specs.Sessions.{ServesAll}
use Rattle.serve_rooms.specs.declared.status.KeptStatus.TheVariants.{Run}
use Rattle.run_laws.specs.Ended.{RunIsSound}
use Rattle.run_laws.proofs.serving.AllCame.{all_came}
use Rattle.run_laws.proofs.serving.AmongSessions.{sessions_job}
use Rattle.run_laws.proofs.serving.Loads.{Came, silent, unread, refusal, profile, came}
use Rattle.run_laws.proofs.serving.Unfailing.{same_run, sessions_sound}

no_memory_fault : IsFault statuses.Memory → ⊥
no_memory_fault (inl is) = cc
no_memory_fault (inr (inl is)) = cc
no_memory_fault (inr (inr is)) = cc

no_refusal_fault : IsFault statuses.Refused → ⊥
no_refusal_fault (inl is) = cc
no_refusal_fault (inr (inl is)) = cc
no_refusal_fault (inr (inr is)) = cc

-- ---- room

-- there is as much room after slots were read
pub room_later : (x : Answer) (a m : Outside) → beside m.view ≡ beside a.view → m.view.written.output ≡ a.view.written.output → HasRoomFor x a.view → HasRoomFor x m.view
room_later x a m same output room = record {
  output = omega (arith, room.output, ap length output, ap (λ (v : View). v.room) same);
  state = subst (λ (r : ℕ). IfSome x.state (λ s. (length s.0 ≤ r) × (length s.1 ≤ r))) (sym (ap (λ (v : View). v.room) same)) room.state;
  links = subst (λ (r : ℕ). All (λ b. length b ≤ r) x.links) (sym (ap (λ (v : View). v.room) same)) room.links;
  coming = omega (arith, room.coming, ap (λ (v : View). length v.links) same);
  address = subst (λ (r : ℕ). IfSome x.address (λ name. length name ≤ r)) (sym (ap (λ (v : View). v.room) same)) room.address;
}

module _ (schema address : List ℕ) (n : ℕ) where
  pub serve_sound : RunIsSound ShowsBytes (serve_job schema address n) to_serve (serves schema address n)
  serve_sound t status s b shown (runs.out_of_memory h) f reliable fits fault =
      no_memory_fault (subst IsFault (told_status memory_line h.between h.rest status h.goes ∙ h.does.1) fault)
  serve_sound t status s b shown (runs.done h) f reliable fits fault =
      let events : Fits (events_in h.acts) s b = subst (λ (l : List Event). Fits l s b) h.events f in
      let works = subst (λ (l : List Act). OfProfiled (ServesAll address n new_server) schema l (Run status)) (sym (append-nil h.acts)) h.works in
      done_sound (came (ServesAll address n new_server) schema h.acts [] (Run status) s b works events)
    where
      done_sound : Came (ServesAll address n new_server) schema h.acts [] (Run status) s b → ⊥
      done_sound (silent some same) = absurd (omega (arith, some))
      done_sound (unread failed missing is none line) = missing reliable (fits.1.0, fits.1.1)
      done_sound (refusal text answers is none line) = no_refusal_fault (subst IsFault (same_run status statuses.Refused is) fault)
      done_sound (profile has before rest m is same first g works) =
          let good = (are_profiles has.is.schema has.p has.is.read.good has.is.is).0 in
          let links : m.view.links ≡ s.view.links = ap (λ (v : View). v.links) same.rest in
          let moments : m.view.moments ≡ s.view.moments = ap (λ (v : View). v.moments) same.rest in
          let here = profile_tells (OfSessions new_server address IsWhole n s.view.links s.view.moments) s.view.files schema has.text has.is.schema has.p fits.0 has.there has.is.read has.is.is fits.1 in
          let there : OfSessions new_server address IsWhole n m.view.links m.view.moments has.p fits.0 =
          subst (λ (l : List (List ℕ)). OfSessions new_server address IsWhole n l m.view.moments has.p fits.0) (sym links) (subst (λ (l : List ℕ). OfSessions new_server address IsWhole n s.view.links l has.p fits.0) (sym moments) here) in
          let room = room_later fits.0 s m same.rest same.output fits.2 in
          let part : sound.Fits (sessions_job has.p n (OfSessions new_server address)) m.view = (fits.0, there, room) in
          sessions_sound has.p good address n new_server m (subst ListsOfBytes (sym links) shown.links) (reliable_on s m (fits_keeps before s m first) reliable) part rest status b (all_came has.p address n new_server rest [] (Run status) m b works g) fault
