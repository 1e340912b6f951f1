-- Words have one answer at most.
use Rattle.std.proofs.Common.{◌≡◌, List, ℕ, sym, ◌∙◌, subst}
use Rattle.tl_base.specs.Outside.{View}
use Rattle.outside.specs.Answer.{Answer}
use Rattle.commands.specs.Requests.{RequestText, check, decode, encode, replay, make, serve, post, client, layers, calls, AsksFor, AsksNothing}
use Rattle.run_laws.specs.Answers.{usage, AnswerTo, Answers, no_request, requested, HasOneAnswer, RequestHasOneAnswer}
use Rattle.call_commands.proofs.OneCalls.{one_calls}
use Rattle.codec_commands.proofs.OneCheck.{one_check}
use Rattle.codec_commands.proofs.OneDecode.{one_decode}
use Rattle.codec_commands.proofs.OneEncode.{one_encode}
use Rattle.codec_commands.proofs.OneLayers.{one_layers}
use Rattle.session_commands.proofs.OnePost.{one_post}
use Rattle.session_commands.proofs.OneRecovery.{one_recovery}
use Rattle.session_commands.proofs.OneServe.{one_serve}
use Rattle.session_commands.proofs.Sent.{link_bytes}
use Rattle.update_commands.proofs.OneMake.{one_make}
use Rattle.update_commands.proofs.ProfiledFiles.{one_replay}
use Rattle.commands.proofs.Rows.{one_request}

pub one_to : RequestHasOneAnswer
one_to (check schema) v shows a c = one_check v.files schema a c
one_to (decode schema type input) v shows a c = one_decode v.files schema type input a c
one_to (encode schema type input) v shows a c = one_encode v.files schema type input a c
one_to (replay schema journal clients) v shows a c = one_replay v.files shows journal clients schema a c
one_to (make schema number steps) v shows a c = one_make number steps v.files schema a c
one_to (serve schema address sessions) v shows a c = one_serve v.files v.links shows.links v.moments schema address sessions a c
one_to (post schema address input) v shows a c = one_post v.files _ (link_bytes v shows) schema address input a c
one_to (client schema address state channels) v shows a c = one_recovery v.files shows.files _ (link_bytes v shows) schema address state channels a c
one_to (layers old new type) v shows a c = one_layers v.files old new type a c
one_to (calls schema input) v shows a c = one_calls v.files shows schema input a c

module _ (words : List (List ℕ)) (v : View) where
  -- the answer to words that ask for this
  pub answer_to : (r : RequestText) (a : Answer) → AsksFor words r → Answers words v a → AnswerTo r v a
  answer_to r a asks (no_request none is) = absurd (none r asks)
  answer_to r a asks (requested s also h) = subst (λ (x : RequestText). AnswerTo x v a) (sym (one_request words r s asks also)) h

  unasked : (a : Answer) → AsksNothing words → Answers words v a → a ≡ usage
  unasked a none (no_request also is) = is
  unasked a none (requested r asks h) = absurd (none r asks)

pub one_answer : HasOneAnswer
one_answer words v shows a c (no_request none is) k = is ∙ sym (unasked words v c none k)
one_answer words v shows a c (requested r asks h) k = one_to r v (shows r asks) a c h (answer_to words v r c asks k)
