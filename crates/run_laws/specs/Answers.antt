-- What the program answers: its status, what it writes, and what it leaves. This project's own.
use Rattle.std.specs.Prelude.{◌≡◌, ℕ, List}
use Rattle.tl_base.specs.Contents.{HoldBytes}
use Rattle.tl_base.specs.Outside.{View}
use Rattle.outside.specs.Answer.{Answer, misused}
use Rattle.commands.specs.Requests.{RequestText, AsksFor, AsksNothing}
use Rattle.commands.specs.Usage.{usage_line}
use Rattle.run_laws.specs.Requests.{HasFilesOf, HasComingOf, ShowsBytesFor, job_of}

abbrev pub usage : Answer
usage = misused usage_line

-- what a request is answered, over this outside
abbrev pub AnswerTo : RequestText → View → Answer → Type 0
AnswerTo r v a = (job_of r).answers v a

-- what the program answers to these words, over this outside
pub data Answers (words : List (List ℕ)) (v : View) (a : Answer) : Type 0 where
  no_request : AsksNothing words → a ≡ usage → Answers words v a
  requested : (r : RequestText) → AsksFor words r → AnswerTo r v a → Answers words v a

-- the outside shows bytes as far as the words ask for what rests on that
abbrev pub ShowsBytesAsked : List (List ℕ) → View → Type 0
ShowsBytesAsked words v = (r : RequestText) → AsksFor words r → ShowsBytesFor v r

-- words have one answer at most
abbrev pub HasOneAnswer : Type 0
HasOneAnswer = (words : List (List ℕ)) (v : View) → ShowsBytesAsked words v → (a b : Answer) → Answers words v a → Answers words v b → a ≡ b

-- nor has a request more than one, whichever operands it has: also such as no words have
abbrev pub RequestHasOneAnswer : Type 0
RequestHasOneAnswer = (r : RequestText) (v : View) → ShowsBytesFor v r → (a b : Answer) → AnswerTo r v a → AnswerTo r v b → a ≡ b

-- there is an answer to these words, over this outside
abbrev pub Answered : List (List ℕ) → View → Type 0
Answered words v = (a : Answer) × Answers words v a

-- Words of no request have the answer `usage`. Those of a request have an answer where the files that it names are there, and what is to come is as it
-- takes it, in bytes.
pub record AreAnswered (words : List (List ℕ)) (v : View) : Type 0 where
  pub of_none : AsksNothing words → Answers words v usage
  pub of_request : (r : RequestText) → AsksFor words r → HasFilesOf v.files r → ShowsBytesFor v r → HasComingOf v r → Answered words v

-- words have an answer over an outside whose files hold bytes
abbrev pub HasAnAnswer : Type 0
HasAnAnswer = (words : List (List ℕ)) (v : View) → HoldBytes v.files → AreAnswered words v
