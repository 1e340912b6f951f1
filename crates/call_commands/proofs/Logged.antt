-- What is told of a file's packets is what they give.
use Rattle.std.proofs.Common.{ℕ, List, refl, sym, subst}
use Rattle.tl_schema.specs.Schemas.{Declared}
use Rattle.tl_calls.specs.Events.{Logged, Log, Gives}
use Rattle.call_commands.specs.CallReports.{none, one_more, Tells}
use Rattle.call_commands.specs.CallReports as report
use Rattle.call_commands.specs.Calls.{EachLogIsGiven}

tells_given : (schema : Declared) (past : Log) (content : List ℕ) (e : Logged) (line : List ℕ) → Tells schema past content e line → Gives schema past e.0 e.1
tells_given schema past content e line (report.call v b there whole few has is line_is) = subst (λ (f : Logged). Gives schema past f.0 f.1) (sym is) refl
tells_given schema past content e line (report.answer n b c v small there here answer is line_is) = subst (λ (f : Logged). Gives schema past f.0 f.1) (sym is) (c, here, answer)
tells_given schema past content e line (report.stale n b small some there unsent is line_is) =
    subst (λ (f : Logged). Gives schema past f.0 f.1) (sym is) (λ c v here answer. unsent c here)

pub each_log_is_given : EachLogIsGiven
each_log_is_given schema file past at left lines none = tt
each_log_is_given schema file past at left lines (one_more before here rest so_far content after e line began has tells) =
    (tells_given schema before content e line tells, each_log_is_given schema file before here rest so_far began)
