-- How a run of `keep` ends: its parts, by what it came to.
use Rattle.std.proofs.Common.{◌≡◌, ◌⊎◌, inl, inr, ℕ, List, [], ◌++◌, append-nil, Some, refl, sym, ap, ◌∙◌, subst}
use Rattle.tl_base.specs.Outside.{IsThere}
use Rattle.box_server.specs.declared.entry.Entry.{Entry}
use Rattle.box_server.specs.Keeping.{KeeperState, with_more}
use Rattle.outside.specs.Answer.{memory_line, read_fault_line, refused}
use Rattle.outside.specs.Kept.{AddsPrefix}
use Rattle.outside.specs.Sound as sound
use Rattle.outside.specs.Sound.{IsFault}
use Rattle.outside.specs.Telling.{Tells, TellsLine}
use Rattle.outside.specs.declared.status.Status.TheVariants as statuses
use Rattle.fault_lines.specs.Profiled.{HasProfile}
use Rattle.outside.specs.Events.{Outside}
use Rattle.outside.specs.Laws.{Happened}
use Rattle.outside.specs.Reliable.{IsReliable}
use Rattle.update_sessions.proofs.Entries.{more_none}
use Rattle.session_commands.specs.Keep.{RoomForRun, told_job}
use Rattle.session_rooms.proofs.LeftViews.{beside, plain_leaves}
use Rattle.serve_rooms.specs.Acts.{Act, IsKeeperFault, IsSure, KeeperGrew, events_in}
use Rattle.serve_rooms.specs.ServedBytes.{added_in}
use Rattle.serve_rooms.specs.Sessions.{keep_fault_line}
use Rattle.serve_rooms.specs.declared.status.KeptStatus.{KeptStatus}
use Rattle.serve_rooms.specs.declared.status.KeptStatus.TheVariants.{KeepFault, Run}
use Rattle.run_laws.specs.Ended.{Ended, ErrorsFailed, LinkFailed, ReadFailed}
use Rattle.run_laws.specs.Ended as ending
use Rattle.run_laws.specs.Kept.{HostEnds, IsKeeperEnd, IsOutsideFault, KeptByFile, KeptEnd, kept_status}
use Rattle.run_laws.specs.Kept as kept
use Rattle.run_laws.proofs.keeping.Entries.{grown_entries}
use Rattle.run_laws.proofs.serving.Lines.{errors_of, output_of}
use Rattle.run_laws.proofs.serving.Loads.{LineSaid, Untouched}
use Rattle.run_laws.proofs.keeping.Openings.{job, some_given}

-- ---- a run, by its parts

module _ (schema address : List ℕ) (n : ℕ) (old new : KeeperState) where
  -- how it ended, what was kept, when its keeper failed, what it touched, and that nothing failed where nothing was to
  pub record Part (all : List Act) (status : KeptStatus) (a b : Outside) : Type 0 where
    pub end : KeptEnd
    pub status_is : status ≡ kept_status end
    pub ends : HostEnds (job old.entries schema address n) (events_in all) end a.view b.view
    pub entries : KeptByFile (LinkFailed (events_in all)) schema address n old.entries new.entries end a.view b.view
    pub fault : IsKeeperEnd end → Happened IsKeeperFault all
    pub never : (es : List Entry) → old.entries ≡ Some es → IsSure old → RoomForRun schema n old.room a.view es → IsKeeperEnd end → ⊥
    pub spares : (beside b.view ≡ beside a.view) ⊎ HasProfile a.view.files schema
    pub sound : IsReliable a → sound.Fits (told_job old.entries schema address n) a.view → IsOutsideFault end → ⊥

  none_kept : (all : List Act) → KeeperGrew old all new → added_in all ≡ [] → new.entries ≡ old.entries
  none_kept all grew none = grown_entries old new all grew ∙ ap (λ (l : List Entry). with_more l old.entries) none ∙ sym (more_none old.entries)

  -- no fault of the outside
  refused_sound : IsFault statuses.Refused → ⊥
  refused_sound (inl is) = let no : statuses.Refused ≡ statuses.ReadFault = is in cc
  refused_sound (inr (inl is)) = let no : statuses.Refused ≡ statuses.WriteFault = is in cc
  refused_sound (inr (inr is)) = let no : statuses.Refused ≡ statuses.LinkFault = is in cc

  memory_sound : IsFault statuses.Memory → ⊥
  memory_sound (inl is) = let no : statuses.Memory ≡ statuses.ReadFault = is in cc
  memory_sound (inr (inl is)) = let no : statuses.Memory ≡ statuses.WriteFault = is in cc
  memory_sound (inr (inr is)) = let no : statuses.Memory ≡ statuses.LinkFault = is in cc

  -- ---- before anything listened

  module _ (all : List Act) (status : KeptStatus) (a b : Outside) where
    abbrev R : Type 0
    R = ReadFailed (events_in all)

    abbrev E : Type 0
    E = ErrorsFailed (events_in all)

    abbrev L : Type 0
    L = LinkFailed (events_in all)

    pub unread_part : R → (IsReliable a → IsThere schema a.view → ⊥) → status ≡ Run statuses.ReadFault → KeeperGrew old all new → added_in all ≡ [] → LineSaid read_fault_line E (Unit {0}) a b → Part all status a b
    unread_part failed lacks is grew none s = record {
      end = kept.stopped statuses.ReadFault;
      status_is = is;
      ends = ending.read_failed failed refl s.output (s.tells tt);
      entries = none_kept all grew none;
      fault = λ f. absurd f;
      never = λ es at sure room f. f;
      spares = inl s.rest;
      sound = λ reliable (x, (text, has, of), room) f. lacks reliable (text, has);
    }

    pub refused_part : (line : List ℕ) → (job old.entries schema address n).answers a.view (refused line) → status ≡ Run statuses.Refused → KeeperGrew old all new → added_in all ≡ [] → LineSaid line E (Unit {0}) a b → Part all status a b
    refused_part line answers is grew none s = record {
      end = kept.stopped statuses.Refused;
      status_is = is;
      ends = ending.answered (refused line) (inl answers) refl (s.output ∙ sym (append-nil (output_of a))) (plain_leaves statuses.Refused [] line a.view b.view s.rest) (s.tells tt);
      entries = none_kept all grew none;
      fault = λ f. absurd f;
      never = λ es at sure room f. f;
      spares = inl s.rest;
      sound = λ reliable fits f. refused_sound f;
    }

    pub keeper_part : HasProfile a.view.files schema → Happened IsKeeperFault all → ¬ IsSure old → status ≡ KeepFault → LineSaid keep_fault_line E (Unit {0}) a b → Part all status a b
    keeper_part h fault unsound is s = record {
      end = kept.keeper_failed;
      status_is = is;
      ends = record { stopped = a.view; given = some_given old.entries schema address n a.view h L a.view refl refl; told = (s.output, s.tells tt) };
      entries = h;
      fault = λ f. fault;
      never = λ es at sure room f. unsound sure;
      spares = inl s.rest;
      sound = λ reliable fits f. f;
    }

    -- ---- memory ran out after that

    module _ (is : status ≡ Run statuses.Memory) (m : Outside) (told : LineSaid memory_line E (Unit {0}) m b) where
      pub memory_told : TellsLine E memory_line m.view b.view
      memory_told = (told.output, told.tells tt)

      pub memory_part : (beside b.view ≡ beside a.view) ⊎ HasProfile a.view.files schema → Ended (job old.entries schema address n) (events_in all) statuses.Memory a.view b.view → Part all status a b
      memory_part spares ends = record {
        end = kept.stopped statuses.Memory;
        status_is = is;
        ends = ends;
        entries = tt;
        fault = λ f. absurd f;
        never = λ es at sure room f. f;
        spares = spares;
        sound = λ reliable fits f. memory_sound f;
      }

      tells_first : errors_of m ≡ errors_of a → Tells E memory_line m.view b.view → Tells E memory_line a.view b.view
      tells_first same (inl whole) = inl (whole ∙ ap (λ (l : List ℕ). l ++ memory_line) same)
      tells_first same (inr (failed, part)) = inr (failed, subst (λ (l : List ℕ). AddsPrefix l (errors_of b) memory_line) same part)

      pub silent_memory : Untouched a m → Part all status a b
      silent_memory same = memory_part (inl (told.rest ∙ same.rest)) (ending.out_of_memory refl (told.output ∙ same.output) (tells_first same.errors (told.tells tt)))

      pub unread_memory : (V All : Type 0) → R → LineSaid read_fault_line V All a m → Part all status a b
      unread_memory V All failed s =
          memory_part (inl (told.rest ∙ s.rest))
          (ending.out_of_memory_told refl m.view (record { line = read_fault_line; fault = inl (failed, refl); stopped = a.view; given = inl (record { output = refl; errors = refl }); told = (s.output, inr (tt, s.errors)) }) memory_told tt)

      pub refused_memory : (V All : Type 0) (line : List ℕ) → (job old.entries schema address n).answers a.view (refused line) → LineSaid line V All a m → Part all status a b
      refused_memory V All line answers s =
          memory_part (inl (told.rest ∙ s.rest))
          (ending.out_of_memory_later refl (record { stopped = m.view; given = (refused line, inl (inl answers), ([], [], refl, s.output ∙ sym (append-nil (output_of a))), inr (tt, s.errors)); told = memory_told }) tt)

      pub keeper_memory : (V All : Type 0) → HasProfile a.view.files schema → Happened IsKeeperFault all → ¬ IsSure old → LineSaid keep_fault_line V All a m → Part all status a b
      keeper_memory V All h fault unsound s = record {
        end = kept.keeper_untold;
        status_is = is;
        ends = (m.view, record { stopped = a.view; given = some_given old.entries schema address n a.view h L a.view refl refl; told = (s.output, inr (tt, s.errors)) }, memory_told);
        entries = h;
        fault = λ f. fault;
        never = λ es at sure room f. unsound sure;
        spares = inl (told.rest ∙ s.rest);
        sound = λ reliable fits f. f;
      }
