-- Last parts of differences, and random ids that are known.
use Rattle.std.proofs.Common.{◌≡◌, ℕ, List, Option, Some, None, Bool, true, false, ◌&&◌, ap}
use Rattle.std.specs.Prelude.{pos, negsuc}
use Rattle.box_events.specs.declared.positions.Receipt.{Receipt}
use Rattle.box_events.specs.declared.positions.State.{State}
use Rattle.box_events.specs.declared.replies.Reply.TheVariants.{Difference}
use Rattle.box_events.specs.declared.settings.Setting.{Setting}
use Rattle.box_events.specs.declared.updates.Placed.{Placed}
use Rattle.box_events.specs.Events.{EventView}
use Rattle.box_server.specs.Answers.{last_by, carried, difference_by, is_whole}
use Rattle.box_server.specs.LastEntries.{changed_since}
use Rattle.box_server.specs.Laws.{LastPartsReachTheServer, KnownIdsPostNothing}
use Rattle.box_server.specs.Receiving.{answer_by, state_by}
use Rattle.box_server.specs.Refusing.{post_cause}
use Rattle.box_server.specs.Runs.{events_after, run_of}
use Rattle.box_server.specs.Servers.{ServerState, state_of}

last_reaches : (b : Bool) (s : ServerState) (pts : ℕ) (es fs : List EventView) (xs : List Setting)
    (news secrets : List (List ℕ)) (others : List Placed) (settings : List Setting) (state : State)
    → last_by b s pts es fs xs ≡ Difference news secrets others settings state true → state ≡ state_of s
last_reaches true s pts es fs xs news secrets others settings state is = absurd cc
last_reaches false s pts es fs xs news secrets others settings state is = cc

carried_reaches : (b : Bool) (s : ServerState) (pts qts date : ℕ) (es fs : List EventView)
    (news secrets : List (List ℕ)) (others : List Placed) (settings : List Setting) (state : State)
    → carried b s pts qts date es fs ≡ Difference news secrets others settings state true → state ≡ state_of s
carried_reaches true s pts qts date es fs news secrets others settings state is = last_reaches _ s pts es fs (changed_since s.settings date) news secrets others settings state is
carried_reaches false s pts qts date es fs news secrets others settings state is = absurd cc

by_reaches : (s : ServerState) (pts qts date : ℕ) (o p : Option (List EventView))
    (news secrets : List (List ℕ)) (others : List Placed) (settings : List Setting) (state : State)
    → difference_by s pts qts date o p ≡ Difference news secrets others settings state true → state ≡ state_of s
by_reaches s pts qts date None p news secrets others settings state is = absurd cc
by_reaches s pts qts date (Some es) None news secrets others settings state is = absurd cc
by_reaches s pts qts date (Some es) (Some fs) news secrets others settings state is = carried_reaches (is_whole es && is_whole fs) s pts qts date (run_of es) (run_of fs) news secrets others settings state is

pub last_parts_reach : LastPartsReachTheServer
last_parts_reach s (negsuc n) qts date news secrets others settings state is = absurd cc
last_parts_reach s (pos pts) (negsuc n) date news secrets others settings state is = absurd cc
last_parts_reach s (pos pts) (pos qts) date news secrets others settings state is =
    by_reaches s pts qts date (events_after s.common pts) (events_after s.secret qts) news secrets others settings state is

pub known_ids_post_nothing : KnownIdsPostNothing
known_ids_post_nothing s random_id posts receipt known =
    (ap (λ (o : Option Receipt). state_by s random_id posts o (post_cause s posts)) known, ap (λ (o : Option Receipt). answer_by s random_id posts o (post_cause s posts)) known)
