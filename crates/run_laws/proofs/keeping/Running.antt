-- Each run of `keep` ends as its job does, and keeps what that keeps.
use Rattle.std.proofs.Common.{◌≡◌, inl, inr, ℕ, List, [], ◌++◌, append-nil, Some, refl, sym, ap, ◌∙◌, subst, arith}
use Rattle.box_server.specs.Keeping.{KeeperState}
use Rattle.outside.specs.Answer.{memory_line}
use Rattle.outside.specs.Telling as telling
use Rattle.outside.specs.declared.status.Status.{Status}
use Rattle.outside.specs.declared.status.Status.TheVariants as statuses
use Rattle.outside.specs.Events.{Event, Outside}
use Rattle.outside.specs.Laws.{Happened}
use Rattle.outside.specs.Pieces.{Tells}
use Rattle.outside.proofs.Causing.{happened_first, happened_last, told_status}
use Rattle.outside.specs.Fits.{Fits}
use Rattle.session_commands.specs.Keep.{RoomForRun, RoomOver}
use Rattle.serve_rooms.specs.Acts.{Act, AgreesAll, IsKeeperFault, IsSure, KeeperGrew, events_in}
use Rattle.serve_rooms.specs.Doing.{BeginsKept, Hosted, RunsKept, done, out_of_memory}
use Rattle.serve_rooms.specs.Serve.{keeps}
use Rattle.serve_rooms.specs.declared.status.KeptStatus.{KeptStatus}
use Rattle.serve_rooms.specs.declared.status.KeptStatus.TheVariants.{Run}
use Rattle.serve_rooms.proofs.Acting.{events_more}
use Rattle.serve_rooms.proofs.AnsweredBytes.{fits_parts}
use Rattle.serve_rooms.proofs.ServeLaws.{keep_touches}
use Rattle.run_laws.specs.Ended.{ErrorsFailed, IsShown, ReadFailed}
use Rattle.run_laws.specs.Kept.{IsKeeperEnd, KeepEnds}
use Rattle.run_laws.proofs.serving.Beginnings.{hosted_events}
use Rattle.run_laws.proofs.keeping.Ending.{Part, keeper_memory, keeper_part, refused_memory, refused_part, silent_memory, unread_memory, unread_part}
use Rattle.run_laws.proofs.keeping.Entries.{used_by}
use Rattle.run_laws.proofs.serving.Loads.{LineSaid, tells_said}
use Rattle.run_laws.proofs.keeping.Openings.{KeepCame, agrees_first, keep_came, silent, no_schema, refusal, no_entries, serving}
use Rattle.run_laws.proofs.keeping.Serving.{serving_memory, serving_part}
use Rattle.run_laws.proofs.keeping.Spared.{serve_keeps}

module _ (schema address : List ℕ) (n : ℕ) (old new : KeeperState) where
  -- the work was done
  module _ (all : List Act) (status : KeptStatus) (a b : Outside) (shown : IsShown a.view) (grew : KeeperGrew old all new) (f : Fits (events_in all) a b) where
    -- what was said, whatever follows of it
    said_whole : (line : List ℕ) → LineSaid line (ErrorsFailed (events_in all)) (◌≡◌ {A = List Act} [] []) a b → LineSaid line (ErrorsFailed (events_in all)) (Unit {0}) a b
    said_whole line s = record { rest = s.rest; output = s.output; errors = s.errors; tells = λ x. s.tells refl }

    done_part : KeepCame old.entries schema address n (IsSure old) all [] status a b → Part schema address n old new all status a b
    done_part (silent go same) = absurd (omega (arith, go))
    done_part (no_schema failed lacks is added s) = unread_part schema address n old new all status a b failed lacks is grew added (said_whole _ s)
    done_part (refusal line answers is added s) = refused_part schema address n old new all status a b line answers is grew added (said_whole line s)
    done_part (no_entries h fault unsound is s) = keeper_part schema address n old new all status a b h fault unsound is (said_whole _ s)
    done_part (serving h s starts first rest m is same g k x) = serving_part schema address n old new all status a b shown grew h s starts first rest m is same g k x

    done_ends : keeps schema address n all status → Part schema address n old new all status a b
    done_ends x =
        done_part (keep_came old.entries schema address n (IsSure old) old.room all [] status a b (subst (λ (l : List Act). keeps schema address n l status) (sym (append-nil all)) x) f grew.agrees)

  -- memory ran out
  module _ (all t last : List Act) (status : KeptStatus) (a m b : Outside) (shown : IsShown a.view) (grew : KeeperGrew old all new) (splits : all ≡ t ++ last) (is : status ≡ Run statuses.Memory) (told : LineSaid memory_line (ErrorsFailed (events_in all)) (Unit {0}) m b) (f : Fits (events_in t) a m) where
    read_first : ReadFailed (events_in t) → ReadFailed (events_in all)
    read_first x = subst (λ (l : List Act). ReadFailed (events_in l)) (sym splits) (subst ReadFailed (sym (events_more t last)) (happened_first _ (events_in t) (events_in last) x))

    memory_by : (u : List Act) (r : KeptStatus) → KeepCame old.entries schema address n (IsSure old) t u r a m → Part schema address n old new all status a b
    memory_by u r (silent go same) = silent_memory schema address n old new all status a b is m told same
    memory_by u r (no_schema failed lacks at added s) = unread_memory schema address n old new all status a b is m told (ErrorsFailed (events_in t)) (u ≡ []) (read_first failed) s
    memory_by u r (refusal line answers at added s) = refused_memory schema address n old new all status a b is m told (ErrorsFailed (events_in t)) (u ≡ []) line answers s
    memory_by u r (no_entries h fault unsound at s) =
        keeper_memory schema address n old new all status a b is m told (ErrorsFailed (events_in t)) (u ≡ []) h (subst (Happened IsKeeperFault) (sym splits) (happened_first IsKeeperFault t last fault)) unsound s
    memory_by u r (serving h s starts first rest k at same g j x) = serving_memory schema address n old new all t last status a m b shown grew splits is told h s starts first rest k at same g j u r x

    memory_ends : BeginsKept (keeps schema address n) t → Part schema address n old new all status a b
    memory_ends x =
        memory_by x.rest x.answer
        (keep_came old.entries schema address n (IsSure old) old.room t x.rest x.answer a m x.whole f (agrees_first (IsSure old) old.room old.entries t last (subst (AgreesAll (IsSure old) old.room old.entries) splits grew.agrees)))

  module _ (t : List Act) (status : KeptStatus) (a b : Outside) (shown : IsShown a.view) (f : Fits (events_in t) a b) (grew : KeeperGrew old t new) where
    ends_by : RunsKept (keeps schema address n) t status → Part schema address n old new t status a b
    ends_by (done x) = done_ends t status a b shown grew f x
    ends_by (out_of_memory x) =
        let parts = fits_parts t x.first x.rest a b x.splits f in
        let y = x.goes in
        let all : x.rest ≡ y.first = y.splits ∙ ap (λ (l : List Act). y.first ++ l) y.goes.0 ∙ append-nil y.first in
        let line : Hosted (Tells memory_line x.between) x.rest y.between = subst (λ (l : List Act). Hosted (Tells memory_line x.between) l y.between) (sym all) y.does in
        let events : events_in x.rest ≡ line.0 = hosted_events x.rest line.0 line.1 in
        let so = tells_said memory_line x.between y.between (events_in x.rest) [] parts.0 b (subst (λ (l : List Event). Tells memory_line x.between l y.between) (sym (append-nil (events_in x.rest) ∙ events)) line.2) parts.2 in
        let later : ErrorsFailed (events_in x.rest) → ErrorsFailed (events_in t) = λ w. subst (λ (l : List Act). ErrorsFailed (events_in l)) (sym x.splits) (subst ErrorsFailed (sym (events_more x.first x.rest)) (happened_last _ (events_in x.first) (events_in x.rest) w)) in
        let told : LineSaid memory_line (ErrorsFailed (events_in t)) (Unit {0}) parts.0 b = record {
          rest = so.rest;
          output = so.output;
          errors = so.errors;
          tells = λ z. elim (so.tells refl) as (λ q. telling.Tells (ErrorsFailed (events_in t)) memory_line parts.0.view b.view) [ inl whole ↦ inl whole | inr failed ↦ inr (later failed.0, failed.1) ];
        } in
        let status_is : status ≡ Run statuses.Memory = y.goes.1 ∙ ap (λ (s : Status). Run s) (told_status memory_line x.between line.0 y.between line.2 ∙ x.does.1) in
        memory_ends t x.first x.rest status a parts.0 b shown grew x.splits status_is told parts.1 x.does.0

pub keep_ends : KeepEnds
keep_ends schema address n t status a b old new shown run f grew =
    let part = ends_by schema address n old new t status a b shown f grew run in
    record {
      end = part.end;
      status_is = part.status_is;
      ends = part.ends;
      kept = serve_keeps schema address (events_in t) a b (keep_touches schema address n t status run) f part.spares;
      sound = part.sound;
      entries = part.entries;
      used = used_by old new t (IsKeeperEnd part.end) (RoomOver (Some a.view) (RoomForRun schema n old.room)) grew part.fault part.never;
    }
