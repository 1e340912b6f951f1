-- Words have an answer over an outside whose files hold bytes.
use Rattle.std.proofs.Common.{ℕ, List, refl}
use Rattle.tl_base.specs.Contents.{HoldBytes}
use Rattle.tl_base.specs.Outside.{View}
use Rattle.outside.specs.Answer.{Answer}
use Rattle.call_commands.proofs.EachCalls.{each_calls}
use Rattle.codec_commands.proofs.EachAnswer.{each_check, each_decode, each_encode}
use Rattle.codec_commands.proofs.EachLayers.{each_layers}
use Rattle.session_commands.proofs.EachClient.{each_client}
use Rattle.session_commands.proofs.EachPost.{each_post}
use Rattle.session_commands.proofs.EachServe.{each_serve}
use Rattle.session_commands.proofs.Sent.{link_bytes}
use Rattle.update_commands.proofs.OneMake.{each_make}
use Rattle.update_commands.proofs.ProfiledFiles.{each_replay}
use Rattle.commands.specs.Requests.{RequestText, check, decode, encode, replay, make, serve, post, client, layers, calls, AsksFor}
use Rattle.run_laws.specs.Requests.{HasFilesOf, HasComingOf, ShowsBytesFor}
use Rattle.commands.proofs.Channels.{are_long}
use Rattle.run_laws.specs.Answers.{AnswerTo, no_request, requested, HasAnAnswer}

each_to : (words : List (List ℕ)) (v : View) → HoldBytes v.files → (r : RequestText) → AsksFor words r → HasFilesOf v.files r → ShowsBytesFor v r → HasComingOf v r → (a : Answer) × AnswerTo r v a
each_to words v files (check schema) asks there shows coming = each_check v.files schema there
each_to words v files (decode schema type input) asks there shows coming = each_decode v.files files schema type input there.0 there.1
each_to words v files (encode schema type input) asks there shows coming = each_encode v.files files schema type input there.0 there.1
each_to words v files (replay schema journal clients) asks there shows coming = each_replay v.files files journal clients schema there.0 there.1
each_to words v files (make schema number steps) asks there shows coming = each_make number steps v.files schema there.0 there.1
each_to words v files (serve schema address sessions) asks there shows coming = each_serve v.files files v.links shows.links v.moments coming schema address sessions there
each_to words v files (post schema address input) asks there shows coming = each_post v.files files _ (link_bytes v shows) schema address input there.0 there.1
each_to words v files (client schema address state channels) asks there shows coming =
    each_client v.files files _ (link_bytes v shows) coming schema address state channels (are_long asks.0 channels asks.5) there.0 there.1
each_to words v files (layers old new type) asks there shows coming = each_layers v.files old new type there.0 there.1
each_to words v files (calls schema input) asks there shows coming = each_calls v.files files schema input there.0 there.1

pub an_answer : HasAnAnswer
an_answer words v files = record {
  of_none = λ asks. no_request asks refl;
  of_request = λ r asks there shows coming. (let tells = each_to words v files r asks there shows coming in (tells.0, requested r asks tells.1));
}
