-- Laws of steps over a host and a keeper that are done one after the other.
use Rattle.std.proofs.Common.{◌≡◌, List, [], ◌∷◌, ◌++◌, map, Option, Some, None, refl, sym, ap, ◌∙◌, subst}
use Rattle.std.proofs.lemmas.List.{append_assoc, map-append}
use Rattle.tl_base.specs.declared.host.Out.{Out}
use Rattle.box_server.specs.Keeping.{KeeperState}
use Rattle.outside.specs.declared.status.Status.{Status}
use Rattle.outside.specs.Events.{Event, HostState}
use Rattle.outside.specs.Laws.{Throughout}
use Rattle.outside.specs.Begun.{DidIn}
use Rattle.outside.specs.Steps.{Step, StepOf, Ends, Then, Turn, again, leave, Reaches, here, turn, Loops, Begins}
use Rattle.outside.proofs.Causing.{throughout_both}
use Rattle.serve_rooms.specs.Acts.{Act, hosted, KeptState, KeptGrew, beside}
use Rattle.serve_rooms.specs.Doing.{Hosted, Last, IsKept, BeginsKept, DidKept}
use Rattle.serve_rooms.specs.declared.status.KeptStatus.TheVariants.{Run}
use Rattle.serve_rooms.proofs.Acting.{kept_hosted, kept_none, kept_more}

-- ---- what can follow

pub kept_hosted_all : (t : List Event) → Throughout IsKept (map (λ e. hosted e) t)
kept_hosted_all [] = tt
kept_hosted_all (e ∷ t) = (tt, kept_hosted_all t)

pub can_end : {A : Type 0} (x : A) → BeginsKept (Ends x) []
can_end x = record { rest = []; answer = x; kept = tt; whole = (refl, refl) }

pub can_then : {A B : Type 0} (S : StepOf Act A) (W : A → StepOf Act B) → BeginsKept S [] → ((a : A) → BeginsKept (W a) []) → BeginsKept (Then S W) []
can_then S W m can =
    let n = can m.answer in
    record {
      rest = m.rest ++ n.rest;
      answer = n.answer;
      kept = throughout_both IsKept m.rest n.rest m.kept n.kept;
      whole = record { first = m.rest; rest = n.rest; between = m.answer; splits = refl; does = m.whole; goes = n.whole };
    }

-- likewise, what follows of a step that can be
pub can_then_by : {A B : Type 0} (S : StepOf Act A) (W : A → StepOf Act B) (m : BeginsKept S []) → BeginsKept (W m.answer) [] → BeginsKept (Then S W) []
can_then_by S W m n = record {
  rest = m.rest ++ n.rest;
  answer = n.answer;
  kept = throughout_both IsKept m.rest n.rest m.kept n.kept;
  whole = record { first = m.rest; rest = n.rest; between = m.answer; splits = refl; does = m.whole; goes = n.whole };
}

pub can_host : {A : Type 0} (S : Step A) → Begins S [] → BeginsKept (Hosted S) []
can_host S m = record { rest = map (λ e. hosted e) m.rest; answer = m.answer; kept = kept_hosted_all m.rest; whole = (m.rest, refl, m.whole) }

pub can_last : (S : Step Status) → Begins S [] → BeginsKept (Last S) []
can_last S m = can_then (Hosted S) (λ status. Ends (Run status)) (can_host S m) (λ status. can_end (Run status))

-- ---- what was done

pub did_nothing : {A : Type 0} (s : KeptState) (x : A) → DidKept (Ends x) s s (Some x)
did_nothing s x = record { trace = []; grew = kept_none s; holds = (refl, refl) }

-- memory may run out before anything happens
pub did_none : {A : Type 0} (S : StepOf Act A) (s : KeptState) → BeginsKept S [] → DidKept S s s None
did_none S s m = record { trace = []; grew = kept_none s; holds = m }

-- a host did it alone
pub did_host : {A : Type 0} {outs : List Out} (S : Step A) (p q : HostState) (k : KeeperState) (x : Option A) → DidIn outs S p q x → DidKept (Hosted S) (beside p k) (beside q k) x
did_host S p q k (Some a) h = record { trace = map (λ e. hosted e) h.trace; grew = kept_hosted p q k h.trace h.grew; holds = (h.trace, refl, h.holds) }
did_host S p q k None h =
    let m = h.holds in
    record {
      trace = map (λ e. hosted e) h.trace;
      grew = kept_hosted p q k h.trace h.grew;
      holds = record { rest = map (λ e. hosted e) m.rest; answer = m.answer; kept = kept_hosted_all m.rest; whole = (h.trace ++ m.rest, sym (map-append (λ e. hosted e) h.trace m.rest), m.whole) };
    }

pub did_then : {A B : Type 0} (S : StepOf Act A) (W : A → StepOf Act B) (p q r : KeptState) (a : A) (b : Option B) → DidKept S p q (Some a) → DidKept (W a) q r b → DidKept (Then S W) p r b
did_then S W p q r a (Some b) g h = record {
  trace = g.trace ++ h.trace;
  grew = kept_more p q r g.trace h.trace g.grew h.grew;
  holds = record { first = g.trace; rest = h.trace; between = a; splits = refl; does = g.holds; goes = h.holds };
}
did_then S W p q r a None g h =
    let m = h.holds in
    record {
      trace = g.trace ++ h.trace;
      grew = kept_more p q r g.trace h.trace g.grew h.grew;
      holds = record { rest = m.rest; answer = m.answer; kept = m.kept; whole = record { first = g.trace; rest = h.trace ++ m.rest; between = a; splits = append_assoc g.trace h.trace m.rest; does = g.holds; goes = m.whole } };
    }

-- likewise, where the answer is known by an equation
pub did_then_at : {A B : Type 0} (S : StepOf Act A) (W : A → StepOf Act B) (p q r : KeptState) (a x : A) (b : Option B) → a ≡ x → DidKept S p q (Some a) → DidKept (W x) q r b → DidKept (Then S W) p r b
did_then_at S W p q r a x b is g h = did_then S W p q r x b (subst (λ y. DidKept S p q (Some y)) is g) h

-- what follows of a step can be, whatever it answered
pub did_stop_by : {A B : Type 0} (S : StepOf Act A) (W : A → StepOf Act B) (p q : KeptState) → ((t : List Act) (a : A) → S t a → BeginsKept (W a) []) → DidKept S p q None → DidKept (Then S W) p q None
did_stop_by S W p q can g =
    let m = g.holds in
    let n = can (g.trace ++ m.rest) m.answer m.whole in
    record {
      trace = g.trace;
      grew = g.grew;
      holds = record {
        rest = m.rest ++ n.rest;
        answer = n.answer;
        kept = throughout_both IsKept m.rest n.rest m.kept n.kept;
        whole = record { first = g.trace ++ m.rest; rest = n.rest; between = m.answer; splits = sym (append_assoc g.trace m.rest n.rest); does = m.whole; goes = n.whole };
      };
    }

pub did_stop : {A B : Type 0} (S : StepOf Act A) (W : A → StepOf Act B) (p q : KeptState) → ((a : A) → BeginsKept (W a) []) → DidKept S p q None → DidKept (Then S W) p q None
did_stop S W p q can = did_stop_by S W p q (λ t a h. can a)

-- a step that is another
pub did_as : {A : Type 0} (S W : StepOf Act A) (p q : KeptState) (x : Option A) → ((t : List Act) (a : A) → S t a → W t a) → DidKept S p q x → DidKept W p q x
did_as S W p q (Some a) turns h = record { trace = h.trace; grew = h.grew; holds = turns h.trace a h.holds }
did_as S W p q None turns h = record { trace = h.trace; grew = h.grew; holds = record { rest = h.holds.rest; answer = h.holds.answer; kept = h.holds.kept; whole = turns (h.trace ++ h.holds.rest) h.holds.answer h.holds.whole } }

pub begun_as : {A : Type 0} (S W : StepOf Act A) → ((t : List Act) (a : A) → S t a → W t a) → BeginsKept S [] → BeginsKept W []
begun_as S W turns m = record { rest = m.rest; answer = m.answer; kept = m.kept; whole = turns m.rest m.answer m.whole }

-- the run ends by what a host did alone
pub did_last : {outs : List Out} (S : Step Status) (p q : HostState) (k : KeeperState) (status : Status) → DidIn outs S p q (Some status) → DidKept (Last S) (beside p k) (beside q k) (Some (Run status))
did_last S p q k status h = did_then (Hosted S) (λ x. Ends (Run x)) (beside p k) (beside q k) (beside q k) status (Some (Run status)) (did_host S p q k (Some status) h) (did_nothing (beside q k) (Run status))

-- ---- loops that can be left from wherever they are

-- the turns from a start on
pub record Turned {S A : Type 0} (body : S → StepOf Act (Turn S A)) (start : S) (old new : KeptState) (s : S) : Type 0 where
  pub trace : List Act
  pub grew : KeptGrew old trace new
  pub reached : Reaches body start trace s

pub record Leaves {S A : Type 0} (body : S → StepOf Act (Turn S A)) (s : S) : Type 0 where
  pub trace : List Act
  pub answer : A
  pub kept : Throughout IsKept trace
  pub does : body s trace (leave answer)

pub turned_none : {S A : Type 0} (body : S → StepOf Act (Turn S A)) (s : S) (p : KeptState) → Turned body s p p s
turned_none body s p = record { trace = []; grew = kept_none p; reached = here [] s refl refl }

pub turned_more : {S A : Type 0} (body : S → StepOf Act (Turn S A)) (s m n : S) (x : Turn S A) (p q r : KeptState) → x ≡ again n → Turned body s p q m → DidKept (body m) q r (Some x) → Turned body s p r n
turned_more body s m n x p q r is g h = record { trace = g.trace ++ h.trace; grew = kept_more p q r g.trace h.trace g.grew h.grew; reached = turn (g.trace ++ h.trace) g.trace h.trace m n refl g.reached (subst (body m h.trace) is h.holds) }

pub loop_left : {S A : Type 0} (body : S → StepOf Act (Turn S A)) (s m : S) (x : Turn S A) (a : A) (p q r : KeptState) → x ≡ leave a → Turned body s p q m → DidKept (body m) q r (Some x) → DidKept (Loops body s) p r (Some a)
loop_left body s m x a p q r is g h = record { trace = g.trace ++ h.trace; grew = kept_more p q r g.trace h.trace g.grew h.grew; holds = record { first = g.trace; rest = h.trace; between = m; splits = refl; does = g.reached; goes = subst (body m h.trace) is h.holds } }

loop_begins : {S A : Type 0} (body : S → StepOf Act (Turn S A)) (s m : S) (t u : List Act) → ((n : S) → Leaves body n) → Reaches body s t m → (x : Turn S A) (rest : List Act) → Throughout IsKept rest → body m (u ++ rest) x → BeginsKept (Loops body s) (t ++ u)
loop_begins body s m t u can r (leave a) rest kept b = record { rest = rest; answer = a; kept = kept; whole = record { first = t; rest = u ++ rest; between = m; splits = append_assoc t u rest; does = r; goes = b } }
loop_begins body s m t u can r (again n) rest kept b =
    let l = can n in
    record {
      rest = rest ++ l.trace;
      answer = l.answer;
      kept = throughout_both IsKept rest l.trace kept l.kept;
      whole = record {
        first = t ++ (u ++ rest);
        rest = l.trace;
        between = n;
        splits = sym (append_assoc (t ++ u) rest l.trace) ∙ ap (λ (k : List Act). k ++ l.trace) (append_assoc t u rest);
        does = turn (t ++ (u ++ rest)) t (u ++ rest) m n refl r b;
        goes = l.does;
      };
    }

-- memory ran out in a turn
pub loop_stopped : {S A : Type 0} (body : S → StepOf Act (Turn S A)) (s m : S) (p q r : KeptState) → ((n : S) → Leaves body n) → Turned body s p q m → DidKept (body m) q r None → DidKept (Loops body s) p r None
loop_stopped body s m p q r can g h = record { trace = g.trace ++ h.trace; grew = kept_more p q r g.trace h.trace g.grew h.grew; holds = loop_begins body s m g.trace h.trace can g.reached h.holds.answer h.holds.rest h.holds.kept h.holds.whole }
