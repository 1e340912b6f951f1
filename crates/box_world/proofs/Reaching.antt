-- What holds after every list of steps.
use Rattle.std.proofs.Common.{◌≡◌, ◌≢◌, ℕ, pos, List, [], ◌∷◌, ◌++◌, Bool, true, false, cond, is_some, Option, Some, refl, sym, ap, ap₂, ◌∙◌, subst}
use Rattle.box_events.specs.declared.replies.Reply.{Reply}
use Rattle.box_events.specs.declared.replies.Reply.TheVariants.{Channel}
use Rattle.box_events.specs.declared.requests.Request.TheVariants.{Channel as Channel_of}
use Rattle.box_events.specs.declared.positions.Receipt.{Receipt}
use Rattle.box_events.specs.declared.steps.Step.{Step}
use Rattle.channel_box.specs.States.{first}
use Rattle.channel_box.specs.Steps.{is_asking, asks_number}
use Rattle.box_server.specs.Answers.{answer}
use Rattle.box_server.specs.Refusing.{post_cause}
use Rattle.box_server.specs.declared.fault.PostFault.{PostFault}
use Rattle.box_world.specs.Awaiting.{ChannelAsksBy}
use Rattle.box_world.proofs.ChannelReplying.{channel_takes, first_has, is_asked}
use Rattle.box_world.proofs.Telling.{channel_answer_is, channel_fits}
use Rattle.box_server.specs.Servers.{ServerState}
use Rattle.box_client.specs.States.{ClientState}
use Rattle.box_client.specs.Replies.{Outcome, ignored, becomes, refuses, replied, group_replied, channel_replied}
use Rattle.box_client.specs.declared.fault.ClientFault.{ClientFault}
use Rattle.box_world.specs.Worlds.{reply, World, happens, run_from, run, start, post_by}
use Rattle.box_world.specs.Agreeing.{Reaches, Boxes}
use Rattle.box_world.specs.Growing.{Continues}
use Rattle.box_world.specs.Reached.{boxes_of, IsGood}
use Rattle.box_world.specs.Laws.{ClientsAgree, PacketsFit, RepliesAreTaken, ClientsCatchUp, ChannelsCatchUp, KnownPostsChangeNothing, RefusedPostsChangeNothing, ServersKeepOrder, WorldsGrow}
use Rattle.box_world.proofs.Continuing.{continues_same, continues_then}
use Rattle.box_world.proofs.Replying.{Carries, Told, stale, takes}
use Rattle.box_world.proofs.Stepping.{advances, good_run, reply_told}
use Rattle.box_world.proofs.Worlds.{good_advances}

good : (carries : Carries) (n : ℕ) (ss : List Step) → IsGood (run n ss)
good carries n ss = good_run carries n ss

pub clients_agree : Carries → ClientsAgree
clients_agree carries n ss = (good carries n ss).agrees

pub packets_fit : Carries → PacketsFit
packets_fit carries n ss = (good carries n ss).pool

pub servers_keep_order : Carries → ServersKeepOrder
servers_keep_order carries n ss = (good carries n ss).ledger

pub never_refused : (s : ServerState) (boxes : Boxes) (c : ClientState) (P : ClientState → Type 0) (o : Outcome) (cause : ClientFault) → Told s boxes c P o → o ≢ refuses cause
never_refused s boxes c P o cause (stale is) e = absurd (let w : ignored ≡ refuses cause = sym is ∙ e in cc)
never_refused s boxes c P o cause (takes d is g past) e = absurd (let w : becomes d ≡ refuses cause = sym is ∙ e in cc)

pub replies_are_taken : Carries → RepliesAreTaken
replies_are_taken carries n ss m k number r s c cause is at =
    let w : World = run n ss in
    never_refused w.server (boxes_of w) c (Reaches s r) (replied c number r) cause (reply_told carries w k c number r s (good carries n ss) at ((good carries n ss).pool m (reply k number r s) is))

run_append : (w : World) (xs ys : List Step) → run_from w (xs ++ ys) ≡ run_from (run_from w xs) ys
run_append w [] ys = refl
run_append w (x ∷ xs) ys = run_append (happens w x) xs ys

on : (carries : Carries) (w : World) (ss : List Step) → IsGood w → Continues w.server (run_from w ss).server (boxes_of w) (boxes_of (run_from w ss))
on carries w [] g = continues_same w.server (boxes_of w) (boxes_of w) (λ id. refl)
on carries w (s ∷ ss) g =
    let a = advances carries w s g in
    let next : World = happens w s in
    let last : World = run_from next ss in
    continues_then w.server next.server last.server (boxes_of w) (boxes_of next) (boxes_of last) a.continues (on carries next ss (good_advances w next g a))

pub worlds_grow : Carries → WorldsGrow
worlds_grow carries n ss later =
    let w : World = run n ss in
    subst (λ (v : World). Continues w.server v.server (boxes_of w) (boxes_of v)) (sym (run_append (start n) ss later)) (on carries w later (good carries n ss))

same_client : (a b : ClientState) → becomes a ≡ becomes b → a ≡ b
same_client a b e = cc

caught_up : (s : ServerState) (boxes : Boxes) (m : ServerState) (r : Reply) (c d : ClientState) (o : Outcome) → o ≡ becomes d → Told s boxes c (Reaches m r) o → Reaches m r d
caught_up s boxes m r c d o e (stale is) = absurd (let w : ignored ≡ becomes d = sym is ∙ e in cc)
caught_up s boxes m r c d o e (takes x is g past) = subst (Reaches m r) (same_client x d (sym is ∙ e)) past

pub clients_catch_up : Carries → ClientsCatchUp
clients_catch_up carries n ss m k number r s c d is at final becoming =
    let w : World = run n ss in
    caught_up w.server (boxes_of w) s r c d (replied c number r) becoming (reply_told carries w k c number r s (good carries n ss) at ((good carries n ss).pool m (reply k number r s) is)) final

-- ---- channels

by_channel : (b o : Bool) (x y : Outcome) → b ≡ false → o ≡ true → cond b x (cond o y ignored) ≡ y
by_channel true o x y e f = absurd (let w : true ≡ false = e in cc)
by_channel false true x y e f = refl
by_channel false false x y e f = absurd (let w : false ≡ true = f in cc)

pub channels_catch_up : Carries → ChannelsCatchUp
channels_catch_up carries n ss m k number v s c d is at free asks final =
    let w : World = run n ss in
    let g = good carries n ss in
    let (r, answered, was) = g.pool m (reply k number (Channel v) s) is in
    let awaits = was.awaits c at in
    let here = first_has (ChannelAsksBy number (Some (record { request = r; seq = was.seq }))) (asks_number number) c.channels d awaits.asks.channels asks in
    let own : r ≡ Channel_of d.id (pos d.lane.at) = here.0 (is_asked number d.lane.mode here.1) in
    let t = channel_takes s w.server was.whole (boxes_of w) c number d v was.ledger g.ledger was.continues (g.agrees k c at) asks (channel_fits s was.whole d r was.seq own was.fits)
    (answered ∙ ap (answer s) own ∙ channel_answer_is s d.id (pos d.lane.at)) in
    (t.channel, t.id, by_channel (is_asking number c.common.mode) (is_some (first (asks_number number) c.channels)) (group_replied c (Channel v)) (channel_replied c number (Channel v)) free (ap is_some asks) ∙ t.is, t.reaches final)

-- ---- posts that change nothing

pub known_posts : KnownPostsChangeNothing
known_posts w random_id posts receipt is = ap (λ (r : Option Receipt). post_by w random_id posts r (post_cause w.server posts)) is

pub refused_posts : RefusedPostsChangeNothing
refused_posts w random_id posts cause new is = ap₂ (λ (r : Option Receipt) (c : Option PostFault). post_by w random_id posts r c) new is
