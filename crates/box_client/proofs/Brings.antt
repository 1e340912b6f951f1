-- What an answer brings, and why it is refused.
use Rattle.std.proofs.Common.{◌≡◌, ◌≢◌, ℕ, ◌<◌, ◌≤◌, List, [], Bool, true, false, ltb, ◌&&◌, Result, Ok, Err, sym, ap, ap₂, ◌∙◌, arith}
use Rattle.std.proofs.lemmas.Bool.Decides.{nat_tests}
use Rattle.box_events.specs.Events.{EventView, count_of}
use Rattle.pts_machine.specs.States.{LaneState}
use Rattle.pts_machine.specs.Steps.{extend}
use Rattle.pts_machine.specs.SeqStates.{SettingsState, asks_again, overlaid}
use Rattle.box_events.specs.declared.difference_fault.WeaveFault.{WeaveFault}
use Rattle.tl_base.specs.declared.fault.Fault.{Fault}
use Rattle.tl_base.specs.declared.fault.Fault.TheVariants.{Refused, Memory}
use Rattle.box_events.specs.Weaving.{Woven}
use Rattle.box_events.specs.Refusal.{Refuses}
use Rattle.box_events.specs.Weaves.{woven_of}
use Rattle.box_events.proofs.Made.{is_made, is_why}
use Rattle.box_client.specs.declared.fault.ClientFault.TheVariants.{SeqBack}
use Rattle.box_client.specs.declared.received.Received.{Received}
use Rattle.box_client.specs.Faults.{fault_by}
use Rattle.box_client.specs.States.{ClientState}
use Rattle.box_client.specs.Replies.{ignored, refuses, becomes, group_done, group_taken, group_woven, brings}
use Rattle.box_client.specs.Calls.{Answers}

abbrev news_of : ClientState → Received → Result (List EventView) WeaveFault
news_of c b = woven_of c.common.at b.state.pts b.news b.others

abbrev messages_of : ClientState → Received → Result (List EventView) WeaveFault
messages_of c b = woven_of c.secret.at b.state.qts b.secrets []

not_taken : (back : Bool) (c : ClientState) (b : Received) (xs ys : List EventView) → group_taken back c b xs ys ≢ ignored
not_taken true c b xs ys e = cc
not_taken false c b xs ys e = cc

not_woven : (c : ClientState) (b : Received) (o p : Result (List EventView) WeaveFault) → group_woven c b o p ≢ ignored
not_woven c b (Err cause) p e = cc
not_woven c b (Ok xs) (Err cause) e = cc
not_woven c b (Ok xs) (Ok ys) e = not_taken (b.last && ltb b.state.seq c.settings.at) c b xs ys e

pub not_ignored : (c : ClientState) (b : Received) → brings c b ≢ ignored
not_ignored c b = not_woven c b (news_of c b) (messages_of c b)

pub news_refused : (c : ClientState) (b : Received) (fault : Fault WeaveFault) (d : ClientState) → Refuses c.common.at b.state.pts b.news b.others fault → d ≡ c → Answers c (brings c b) (Err (fault_by fault)) d
news_refused c b (Refused cause) d r same = (ap (λ (o : Result (List EventView) WeaveFault). group_woven c b o (messages_of c b)) ((is_why c.common.at b.state.pts b.news b.others).0 cause r), same)
news_refused c b Memory d r same = (not_ignored c b, same)

pub messages_refused : (c : ClientState) (b : Received) (xs : List EventView) (fault : Fault WeaveFault) (d : ClientState) → Woven c.common.at b.state.pts b.news b.others xs → Refuses c.secret.at b.state.qts b.secrets [] fault → d ≡ c → Answers c (brings c b) (Err (fault_by fault)) d
messages_refused c b xs (Refused cause) d w r same = (ap₂ (group_woven c b) (is_made c.common.at b.state.pts b.news b.others xs w) ((is_why c.secret.at b.state.qts b.secrets []).0 cause r), same)
messages_refused c b xs Memory d w r same = (not_ignored c b, same)

pub both_woven : (c : ClientState) (b : Received) (xs ys : List EventView) → Woven c.common.at b.state.pts b.news b.others xs → Woven c.secret.at b.state.qts b.secrets [] ys
    → brings c b ≡ group_taken (b.last && ltb b.state.seq c.settings.at) c b xs ys
both_woven c b xs ys w v = ap₂ (group_woven c b) (is_made c.common.at b.state.pts b.news b.others xs w) (is_made c.secret.at b.state.qts b.secrets [] ys v)

is_back : (a b : ℕ) → a < b → ltb a b ≡ true
is_back a b lt = grind (arith, nat_tests)

is_not_back : (a b : ℕ) → b ≤ a → ltb a b ≡ false
is_not_back a b le = grind (arith, nat_tests)

pub goes_back : (c : ClientState) (b : Received) (xs ys : List EventView) → Woven c.common.at b.state.pts b.news b.others xs → Woven c.secret.at b.state.qts b.secrets [] ys
    → b.last ≡ true → b.state.seq < c.settings.at → brings c b ≡ refuses (SeqBack c.settings.at b.state.seq)
goes_back c b xs ys w v last lt = both_woven c b xs ys w v ∙ ap₂ (λ (p q : Bool). group_taken (p && q) c b xs ys) last (is_back b.state.seq c.settings.at lt)

pub brings_last : (c : ClientState) (b : Received) (xs ys : List EventView) (d : ClientState) → Woven c.common.at b.state.pts b.news b.others xs → Woven c.secret.at b.state.qts b.secrets [] ys
    → b.last ≡ true → c.settings.at ≤ b.state.seq → group_done true c b xs ys ≡ d → brings c b ≡ becomes d
brings_last c b xs ys d w v last le done =
    both_woven c b xs ys w v ∙ ap₂ (λ (p q : Bool). group_taken (p && q) c b xs ys) last (is_not_back b.state.seq c.settings.at le)
    ∙ ap (λ (l : Bool). becomes (group_done l c b xs ys)) last ∙ ap becomes done

pub brings_part : (c : ClientState) (b : Received) (xs ys : List EventView) (d : ClientState) → Woven c.common.at b.state.pts b.news b.others xs → Woven c.secret.at b.state.qts b.secrets [] ys
    → b.last ≡ false → group_done false c b xs ys ≡ d → brings c b ≡ becomes d
brings_part c b xs ys d w v last done =
    both_woven c b xs ys w v ∙ ap (λ (p : Bool). group_taken (p && ltb b.state.seq c.settings.at) c b xs ys) last
    ∙ ap (λ (l : Bool). becomes (group_done l c b xs ys)) last ∙ ap becomes done

pub part_done : (c : ClientState) (b : Received) (xs ys : List EventView) (t u v w : LaneState EventView) (s : SettingsState) → t ≡ extend count_of v xs false → v ≡ c.common → u ≡ extend count_of w ys false → w ≡ c.secret → s ≡ asks_again c.settings
    → group_done false c b xs ys ≡ record c { common = t; secret = u; settings = s }
part_done c b xs ys t u v w s p q r o e =
    let one = sym (p ∙ ap (λ (z : LaneState EventView). extend count_of z xs false) q) in
    let two = sym (r ∙ ap (λ (z : LaneState EventView). extend count_of z ys false) o) in
    λ i. record c { common = one i; secret = two i; settings = sym e i }

pub last_done : (c : ClientState) (b : Received) (xs ys : List EventView) (t u v w : LaneState EventView) (s : SettingsState) → t ≡ extend count_of v xs true → v ≡ c.common → u ≡ extend count_of w ys true → w ≡ c.secret → s ≡ overlaid c.settings b.settings b.state.seq b.state.date
    → group_done true c b xs ys ≡ record c { common = t; secret = u; settings = s }
last_done c b xs ys t u v w s p q r o e =
    let one = sym (p ∙ ap (λ (z : LaneState EventView). extend count_of z xs true) q) in
    let two = sym (r ∙ ap (λ (z : LaneState EventView). extend count_of z ys true) o) in
    λ i. record c { common = one i; secret = two i; settings = sym e i }
