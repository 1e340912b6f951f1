-- Where there is room for all that the replay of the journal writes, no write fails.
use Rattle.std.proofs.Common.{◌≡◌, ℕ, ◌+◌, ◌≤◌, List, ◌++◌, length, length-append, Bool, Option, Some, None, Ok, refl, sym, ap, subst, arith}
use Rattle.std.specs.Prelude.{IsTrue, IsSome, IfSome}
use Rattle.std.specs.Io.KnownBytes.{Appends}
use Rattle.tl_numbers.specs.Bytes.{AreBytes}
use Rattle.tl_base.specs.Using.{SinkState, Wrote, WritesOnly}
use Rattle.box_events.specs.declared.steps.Step.{Step}
use Rattle.wire_profile.specs.Indexes.{ProfileView}
use Rattle.wire_profile.specs.Profiles.{IsProfile}
use Rattle.update_world.specs.Shown.{Shown}
use Rattle.update_replay.specs.Endings.{Ending}
use Rattle.update_replay.specs.Handing.{HandsOut}
use Rattle.update_replay.specs.Replays.{Began, Next, Replays, NeverFull, goes_on, seen_of}
use Rattle.update_replay.specs.declared.machine.Replay.{Replay}
use Rattle.update_replay.proofs.ReplayPrefixes.{next_first}
use Rattle.update_replay.proofs.Replaying.{Writing, next_lines}

-- the lines of a run and what comes next are no longer than what the replay writes
next_shorter : (p : ProfileView) → IsProfile p → (n : ℕ) (seen : List ℕ) → AreBytes seen → (more : Bool) (ss : List Step) (at : ℕ) (left lines next : List ℕ) → Began p n seen ss at left lines → Next p n more ss left next
    → (os : List Step) (output : List ℕ) (ending : Ending) → Replays p n seen more os output ending → length lines + length next ≤ length output
next_shorter p good n seen are more ss at left lines next began comes os output ending replays =
    let f = next_first p good n seen are more os output ending replays ss at left lines next began comes in
    omega (arith, ap length f.1, length-append (lines ++ next) f.0, length-append lines next)

-- where a write of what comes next failed, there was no room for the replay
room_left : (p : ProfileView) (n : ℕ) (seen : List ℕ) (more : Bool) (lines next : List ℕ) (F P : Type 0) (a b : Option (List ℕ)) (s t : Bool) (room now : ℕ) → Appends a b lines → (IsSome a → IsTrue s → IsTrue t) → now ≡ room
    → ((os : List Step) (output : List ℕ) (ending : Ending) → Replays p n seen more os output ending → length lines + length next ≤ length output)
    → IfSome b (λ before. IsTrue t → length before + length next ≤ now → P → ⊥) → (F → P) → NeverFull p n seen more a s room F
room_left p n seen more lines next F P None b s t room now wrote stays same shorter never tells = tt
room_left p n seen more lines next F P (Some x) None s t room now wrote stays same shorter never tells = absurd wrote
room_left p n seen more lines next F P (Some x) (Some y) s t room now wrote stays same shorter never tells =
    λ sound os output ending replays most failed. never (stays refl sound) (omega (arith, ap length wrote, length-append x lines, shorter os output ending replays, most, same)) (tells failed)

pub lines_fit : (p : ProfileView) → IsProfile p → (n : ℕ) (journal : List ℕ) → AreBytes (seen_of journal) → (w v : Shown) (r new : Replay) (x y z : SinkState) → WritesOnly x y ⊥ → (g : Writing p n journal w r x.written y.written) (more : Bool) (lines : List ℕ)
    → HandsOut p n journal g.steps r.rest.now g.output v new (Ok more) → lines ≡ new.lines.items → (P F : Type 0) → Wrote y z (length lines) P → (F → P) → NeverFull p n (seen_of journal) (goes_on journal) x.written x.sound x.room F
lines_fit p good n journal are w v r new x y z before g more lines handed is P F wrote tells =
    let comes = subst (Next p n (goes_on journal) g.steps r.rest.now) (sym is) (next_lines p n journal w r x.written y.written g v new more handed) in
    room_left p n (seen_of journal) (goes_on journal) g.output lines F P x.written y.written x.sound y.sound x.room y.room g.wrote before.stays before.room_kept
    (next_shorter p good n (seen_of journal) are (goes_on journal) g.steps r.at r.rest.now g.output lines (g.made).began comes) wrote.never tells

-- where no write failed
pub never_full : (p : ProfileView) (n : ℕ) (seen : List ℕ) (more : Bool) (a : Option (List ℕ)) (sound : Bool) (room : ℕ) (F : Type 0) → (F → ⊥) → NeverFull p n seen more a sound room F
never_full p n seen more None sound room F never = tt
never_full p n seen more (Some before) sound room F never = λ s ss output ending replays most failed. never failed
