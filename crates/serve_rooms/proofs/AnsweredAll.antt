-- A server's session over the link in hand, turn by turn.
use Rattle.std.proofs.Common.{◌≡◌, ℕ, ◌+◌, ◌<◌, ◌≤◌, ltb, Bool, true, false, Option, Some, None, Result, Ok, Err, refl, sym, ap, subst}
use Rattle.box_server.specs.Servers.{ServerState}
use Rattle.wire_profile.specs.Indexes.{ProfileView}
use Rattle.outside.specs.Steps.{Ends, Loops, Turn, again, leave}
use Rattle.update_sessions.specs.declared.fault.SessionFault.{SessionFault}
use Rattle.update_sessions.specs.declared.fault.SessionFault.TheVariants.{TooManyFrames}
use Rattle.update_sessions.specs.declared.fault.TheConstants.{MAX_FRAMES}
use Rattle.serve_rooms.specs.Acts.{KeptState}
use Rattle.serve_rooms.specs.Answering.{Answered, goes_on, has_ended, fails, unkept, AnswersNext, Session, over, lost, Served, turn_of, answers_by, AnswersOn}
use Rattle.serve_rooms.specs.Doing.{DidKept}
use Rattle.serve_rooms.specs.declared.answering.Outcome.{Outcome}
use Rattle.serve_rooms.specs.declared.answering.Outcome.TheVariants as outcome
use Rattle.box_server.specs.declared.store_fault.KeepFault.{KeepFault}
use Rattle.box_server.specs.declared.store_fault.KeepFault.TheVariants as keeping
use Rattle.serve_rooms.specs.inner.Ends.{answered_as, answered_by, end_at, session_by}
use Rattle.serve_rooms.proofs.Doing.{Turned, can_end, did_nothing, did_stop, did_then, loop_left, loop_stopped, turned_more}
use Rattle.serve_rooms.proofs.Answered.{leaves_at}
use Rattle.session_rooms.proofs.Conversations.{is_less, not_less}

module _ (p : ProfileView) where
  module _ (s : ServerState) (n : ℕ) (q r : KeptState) where
    by_test : (more : Bool) (x : Option (Turn Served Session)) → ltb n MAX_FRAMES ≡ more → DidKept (answers_by p more (s, n)) q r x → DidKept (AnswersOn p (s, n)) q r x
    by_test more x is h = subst (λ (b : Bool). DidKept (answers_by p b (s, n)) q r x) (sym is) h

    module _ (few : n < MAX_FRAMES) where
      turn_made : (x : Answered) → DidKept (AnswersNext p s) q r (Some x) → DidKept (AnswersOn p (s, n)) q r (Some (turn_of n x))
      turn_made x h = by_test true (Some (turn_of n x)) (is_less n MAX_FRAMES few) (did_then (AnswersNext p s) (λ (y : Answered). Ends (turn_of n y)) q r r x _ h (did_nothing r (turn_of n x)))

      turn_stopped : DidKept (AnswersNext p s) q r None → DidKept (AnswersOn p (s, n)) q r None
      turn_stopped h = by_test true None (is_less n MAX_FRAMES few) (did_stop (AnswersNext p s) (λ (y : Answered). Ends (turn_of n y)) q r (λ y. can_end (turn_of n y)) h)

  module _ (start : Served) (s : ServerState) (n : ℕ) (a q r : KeptState) (g : Turned (AnswersOn p) start a q (s, n)) where
    module _ (few : n < MAX_FRAMES) where
      left_by : (x : Answered) (end : Session) → turn_of n x ≡ leave end → DidKept (AnswersNext p s) q r (Some x) → DidKept (Loops (AnswersOn p) start) a r (Some end)
      left_by x end is h = loop_left (AnswersOn p) start (s, n) (turn_of n x) end a q r is g (turn_made s n q r few x h)

      pub one_more : (t : ServerState) (o : Outcome) → end_at n o ≡ None → DidKept (AnswersNext p s) q r (Some (answered_as t o)) → Turned (AnswersOn p) start a r (t, n + 1)
      one_more t outcome.Answered is h = turned_more (AnswersOn p) start (s, n) (t, n + 1) (again (t, n + 1)) a q r refl g (turn_made s n q r few (goes_on t) h)
      one_more t outcome.Ended is h = absurd (let no : Some (Ok n) ≡ None = is in cc)
      one_more t (outcome.Failed fault) is h = absurd (let no : Some (Err fault) ≡ None = is in cc)

      pub session_over : (t : ServerState) (o : Outcome) (end : Result ℕ SessionFault) → end_at n o ≡ Some end → DidKept (AnswersNext p s) q r (Some (answered_as t o)) → DidKept (Loops (AnswersOn p) start) a r (Some (over t end))
      session_over t outcome.Answered end is h = absurd (let no : None ≡ Some end = is in cc)
      session_over t outcome.Ended end is h = left_by (has_ended t) (over t end) (let same : Ok n ≡ end = cc in ap (λ (e : Result ℕ SessionFault). leave (over t e)) same) h
      session_over t (outcome.Failed fault) end is h = left_by (fails t fault) (over t end) (let same : Err fault ≡ end = cc in ap (λ (e : Result ℕ SessionFault). leave (over t e)) same) h

      pub session_stopped : (t : ServerState) (fault : KeepFault) → DidKept (AnswersNext p s) q r (answered_by t (Err fault)) → DidKept (Loops (AnswersOn p) start) a r (session_by t (Err fault))
      session_stopped t keeping.Memory h = loop_stopped (AnswersOn p) start (s, n) a q r (leaves_at p) g (turn_stopped s n q r few h)
      session_stopped t keeping.Failed h = left_by unkept lost refl h

  module _ (start : Served) (s : ServerState) (n : ℕ) (a q : KeptState) (g : Turned (AnswersOn p) start a q (s, n)) where
    pub too_many : MAX_FRAMES ≤ n → DidKept (Loops (AnswersOn p) start) a q (Some (over s (Err TooManyFrames)))
    too_many many = loop_left (AnswersOn p) start (s, n) (leave (over s (Err TooManyFrames))) (over s (Err TooManyFrames)) a q q refl g (by_test s n q q false (Some (leave (over s (Err TooManyFrames)))) (not_less n MAX_FRAMES many) (did_nothing q (leave (over s (Err TooManyFrames)))))
