-- Laws of answers that are printed.
use Rattle.std.proofs.Common.{◌≡◌, ℕ, List, [], ◌++◌, Bool, true, false, Option, Some, None, refl, sym, subst}
use Rattle.tl_base.specs.declared.host.Out.{Out}
use Rattle.tl_base.specs.declared.host.Out.TheVariants.{Output}
use Rattle.outside.specs.Answer.{Answer, done, refused}
use Rattle.outside.specs.Jobs.{Making, made, refused_by, unread, no_memory}
use Rattle.outside.specs.declared.status.Status.{Status}
use Rattle.outside.specs.declared.status.Status.TheVariants.{Refused}
use Rattle.outside.specs.Events.{HostState}
use Rattle.outside.specs.Begun.{Did, DidIn}
use Rattle.outside.specs.Steps.{Begins}
use Rattle.outside.specs.Pieces.{Writes, Tells}
use Rattle.outside.specs.Printing.{Prints, after_output, Answers, Makes, PrintsMade}
use Rattle.outside.proofs.Growing.{grew_none, did_both, did_nothing, did_none, can_then}
use Rattle.outside.proofs.Piecewise.{no_pieces, can_write, can_tell}

pub wrote_nothing : (out : Out) (p : HostState) → Did (Writes out []) p p (Some true)
wrote_nothing out p = record { trace = []; grew = grew_none p; holds = no_pieces _ [] }

pub told_nothing : {A : Type 0} (p : HostState) (status : A) → Did (Tells [] status) p p (Some status)
told_nothing p status = did_both _ _ p p p true status (wrote_nothing _ p) (did_nothing p status)

-- a refusal is its line
pub refused_printed : (line : List ℕ) (p q : HostState) (answer : Option Status) → Did (Tells line Refused) p q answer → Did (Prints (refused line)) p q answer
refused_printed line p q (Some status) h = did_both (Writes Output []) (after_output (refused line)) p p q true status (wrote_nothing Output p) h
refused_printed line p q None h =
    let m = h.holds in
    record {
      trace = h.trace;
      grew = h.grew;
      holds = record { rest = m.rest; answer = m.answer; whole = record { first = []; rest = h.trace ++ m.rest; between = true; splits = refl; does = no_pieces _ []; goes = m.whole }; only = m.only };
    }

-- likewise of what was made, with the line as it was told
pub refused_at : (m : Making) (told line : List ℕ) (p q : HostState) (answer : Option Status) → m ≡ refused_by line → told ≡ line → Did (Tells told Refused) p q answer → PrintsMade m p q answer
refused_at m told line p q answer is same h =
    subst (λ (x : Making). PrintsMade x p q answer) (sym is) (refused_printed line p q answer (subst (λ (l : List ℕ). Did (Tells l Refused) p q answer) same h))

-- ---- answers of a kind

can_after : (a : Answer) (ok : Bool) → Begins (after_output a ok) []
can_after a true = can_tell a.errors a.status
can_after a false = can_tell _ _

pub can_print : (a : Answer) → Begins (Prints a) []
can_print a = can_then _ _ (can_write Output a.output) (λ ok. can_after a ok)

module _ (Is : Answer → Type 0) where
  pub can_answer : (a : Answer) → Is a → Begins (Answers Is) []
  can_answer a is = let m = can_print a in record { rest = m.rest; answer = m.answer; whole = (a, is, m.whole) }

  pub answers_by : {outs : List Out} (a : Answer) (p q : HostState) (answer : Option Status) → Is a → DidIn outs (Prints a) p q answer → DidIn outs (Answers Is) p q answer
  answers_by a p q (Some status) is h = record { trace = h.trace; grew = h.grew; holds = (a, is, h.holds) }
  answers_by a p q None is h = record { trace = h.trace; grew = h.grew; holds = record { rest = h.holds.rest; answer = h.holds.answer; whole = (a, is, h.holds.whole); only = h.holds.only } }

  -- what was made is printed
  pub made_printed : (m : Making) (p q : HostState) (answer : Option Status) → (a : Answer) × Is a → Makes Is m → PrintsMade m p q answer → Did (Answers Is) p q answer
  made_printed (made text) p q answer some is h = answers_by (done text) p q answer is h
  made_printed (refused_by line) p q answer some is h = answers_by (refused line) p q answer is h
  made_printed unread p q answer some is h = absurd is
  made_printed no_memory p q answer some is h = subst (λ (o : Option Status). Did (Answers Is) p q o) (sym h.0) (subst (λ (s : HostState). Did (Answers Is) p s None) (sym h.1) (did_none _ p (can_answer some.0 some.1)))
