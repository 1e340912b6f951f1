-- Laws of pasts that grow, and of steps that are done one after the other.
use Rattle.std.proofs.Common.{◌≡◌, List, [], ◌∷◌, ◌++◌, Option, Some, None, refl, sym, ap, ◌∙◌, subst}
use Rattle.std.proofs.lemmas.List.{append-nil, append_assoc}
use Rattle.tl_base.specs.declared.host.Out.{Out}
use Rattle.tl_base.specs.declared.counts.Counts.{Counts}
use Rattle.outside.specs.Events.{Event, Past, HostState, counted, counted_all}
use Rattle.outside.proofs.Causing.{throughout_both}
use Rattle.outside.specs.Grown.{PastGrew, Grew}
use Rattle.outside.specs.Begun.{Did, DidIn, WritesOnly}
use Rattle.outside.proofs.Begun.{more_may}
use Rattle.outside.specs.Laws.{Throughout, Keeps}
use Rattle.outside.specs.Steps.{Step, Ends, Calls, Then, Turn, again, leave, Reaches, here, turn, Loops, Begins, Grows}

past_more : (p q r : Option Past) (t u : List Event) → PastGrew p t q → PastGrew q u r → PastGrew p (t ++ u) r
past_more None None None t u a b = tt
past_more None None (Some r) t u a b = b
past_more None (Some q) None t u a b = tt
past_more None (Some q) (Some r) t u a b = a
past_more (Some p) None None t u a b = tt
past_more (Some p) None (Some r) t u a b = absurd b
past_more (Some p) (Some q) None t u a b = tt
past_more (Some p) (Some q) (Some r) t u a b =
    let both : r ≡ record p { events = (p.events ++ t) ++ u } = b ∙ ap (λ (x : Past). record x { events = x.events ++ u }) a in
    both ∙ ap (λ (l : List Event). record p { events = l }) (append_assoc p.events t u)

counted_more : (t u : List Event) (c : Counts) → counted_all (t ++ u) c ≡ counted_all u (counted_all t c)
counted_more [] u c = refl
counted_more (e ∷ t) u c = counted_more t u (counted e c)

past_none : (p : Option Past) → PastGrew p [] p
past_none None = tt
past_none (Some p) = ap (λ (l : List Event). record p { events = l }) (sym (append-nil p.events))

pub grew_none : (s : HostState) → Grew s [] s
grew_none s = record { past = past_none s.past; counts = refl }

pub grew_more : (a b c : HostState) (t u : List Event) → Grew a t b → Grew b u c → Grew a (t ++ u) c
grew_more a b c t u g h = record {
  past = past_more a.past b.past c.past t u g.past h.past;
  counts = h.counts ∙ ap (counted_all u) g.counts ∙ sym (counted_more t u a.counts);
}

-- a call more
pub grows_call : (a b c : HostState) (P Q : List Event → Type 0) (e : Event) → ((t : List Event) → P t → Q (t ++ e ∷ [])) → Grows a b P → Grew b (e ∷ []) c → Grows a c Q
grows_call a b c P Q e f g h = record { trace = g.trace ++ e ∷ []; grew = grew_more a b c g.trace (e ∷ []) g.grew h; holds = f g.trace g.holds }

pub did_grow : {A : Type 0} {outs : List Out} (S : Step A) (a b : HostState) (x : A) → Grows a b (λ t. S t x) → DidIn outs S a b (Some x)
did_grow S a b x g = record { trace = g.trace; grew = g.grew; holds = g.holds }

-- one call that answers
pub did_call : {A : Type 0} {outs : List Out} (event : A → Event) (a b : HostState) (x : A) → Grew a (event x ∷ []) b → DidIn outs (Calls event) a b (Some x)
did_call event a b x g = record { trace = event x ∷ []; grew = g; holds = refl }

pub did_nothing : {A : Type 0} {outs : List Out} (a : HostState) (x : A) → DidIn outs (Ends x) a a (Some x)
did_nothing a x = record { trace = []; grew = grew_none a; holds = (refl, refl) }

-- where nothing is written, nothing is written but to these
throughout_more : (outs : List Out) (t : List Event) → Throughout (WritesOnly []) t → Throughout (WritesOnly outs) t
throughout_more outs [] h = tt
throughout_more outs (e ∷ t) h = (more_may outs e h.0, throughout_more outs t h.1)

pub did_more : {A : Type 0} {outs : List Out} (S : Step A) (p q : HostState) (x : Option A) → Did S p q x → DidIn outs S p q x
did_more S p q (Some a) h = record { trace = h.trace; grew = h.grew; holds = h.holds }
did_more {outs = outs} S p q None h = record { trace = h.trace; grew = h.grew; holds = record { rest = h.holds.rest; answer = h.holds.answer; whole = h.holds.whole; only = throughout_more outs h.trace h.holds.only } }

-- what has an answer is so, whatever may be written where memory runs out
pub did_any : {A : Type 0} {few outs : List Out} (S : Step A) (p q : HostState) (x : A) → DidIn few S p q (Some x) → DidIn outs S p q (Some x)
did_any S p q x h = record { trace = h.trace; grew = h.grew; holds = h.holds }

-- ---- steps one after the other

-- a step, and what follows of its answer
pub did_then : {A B : Type 0} {outs : List Out} (S : Step A) (W : A → Step B) (p q r : HostState) (a : A) (b : Option B) → Keeps (WritesOnly outs) S → DidIn outs S p q (Some a) → DidIn outs (W a) q r b → DidIn outs (Then S W) p r b
did_then S W p q r a (Some b) keeps g h = record {
  trace = g.trace ++ h.trace;
  grew = grew_more p q r g.trace h.trace g.grew h.grew;
  holds = record { first = g.trace; rest = h.trace; between = a; splits = refl; does = g.holds; goes = h.holds };
}
did_then {outs = outs} S W p q r a None keeps g h =
    let m = h.holds in
    record {
      trace = g.trace ++ h.trace;
      grew = grew_more p q r g.trace h.trace g.grew h.grew;
      holds = record {
        rest = m.rest;
        answer = m.answer;
        whole = record { first = g.trace; rest = h.trace ++ m.rest; between = a; splits = append_assoc g.trace h.trace m.rest; does = g.holds; goes = m.whole };
        only = throughout_both (WritesOnly outs) g.trace h.trace (keeps g.trace a g.holds) m.only;
      };
    }

-- likewise, where it is done to its end
pub did_both : {A B : Type 0} {outs : List Out} (S : Step A) (W : A → Step B) (p q r : HostState) (a : A) (b : B) → DidIn outs S p q (Some a) → DidIn outs (W a) q r (Some b) → DidIn outs (Then S W) p r (Some b)
did_both S W p q r a b g h = record {
  trace = g.trace ++ h.trace;
  grew = grew_more p q r g.trace h.trace g.grew h.grew;
  holds = record { first = g.trace; rest = h.trace; between = a; splits = refl; does = g.holds; goes = h.holds };
}

-- what follows of a step can be, whatever it answered
pub did_stop_by : {A B : Type 0} {outs : List Out} (S : Step A) (W : A → Step B) (p q : HostState) → ((t : List Event) (a : A) → S t a → Begins (W a) []) → DidIn outs S p q None → DidIn outs (Then S W) p q None
did_stop_by S W p q can g =
    let m = g.holds in
    let n = can (g.trace ++ m.rest) m.answer m.whole in
    record {
      trace = g.trace;
      grew = g.grew;
      holds = record { rest = m.rest ++ n.rest; answer = n.answer; whole = record { first = g.trace ++ m.rest; rest = n.rest; between = m.answer; splits = sym (append_assoc g.trace m.rest n.rest); does = m.whole; goes = n.whole }; only = m.only };
    }

pub did_stop : {A B : Type 0} {outs : List Out} (S : Step A) (W : A → Step B) (p q : HostState) → ((a : A) → Begins (W a) []) → DidIn outs S p q None → DidIn outs (Then S W) p q None
did_stop S W p q can = did_stop_by S W p q (λ t a h. can a)

pub can_end : {A : Type 0} (x : A) → Begins {E = Event} (Ends x) []
can_end x = record { rest = []; answer = x; whole = (refl, refl) }

pub can_then : {A B : Type 0} (S : Step A) (W : A → Step B) → Begins S [] → ((a : A) → Begins (W a) []) → Begins (Then S W) []
can_then S W m can =
    let n = can m.answer in
    record { rest = m.rest ++ n.rest; answer = n.answer; whole = record { first = m.rest; rest = n.rest; between = m.answer; splits = refl; does = m.whole; goes = n.whole } }

-- memory may run out before anything happens
pub did_none : {A : Type 0} {outs : List Out} (S : Step A) (p : HostState) → Begins S [] → DidIn outs S p p None
did_none S p m = record { trace = []; grew = grew_none p; holds = record { rest = m.rest; answer = m.answer; whole = m.whole; only = tt } }

-- ---- loops

pub reached_none : {S A : Type 0} (body : S → Step (Turn S A)) (s : S) (p : HostState) → Grows p p (λ t. Reaches body s t s)
reached_none body s p = record { trace = []; grew = grew_none p; holds = here [] s refl refl }

pub reached_turn : {S A : Type 0} {outs : List Out} (body : S → Step (Turn S A)) (s m n : S) (x : Turn S A) (p q r : HostState) → x ≡ again n → Grows p q (λ t. Reaches body s t m) → DidIn outs (body m) q r (Some x) → Grows p r (λ t. Reaches body s t n)
reached_turn body s m n x p q r is g h = record { trace = g.trace ++ h.trace; grew = grew_more p q r g.trace h.trace g.grew h.grew; holds = turn (g.trace ++ h.trace) g.trace h.trace m n refl g.holds (subst (body m h.trace) is h.holds) }

pub loop_left : {S A : Type 0} {outs : List Out} (body : S → Step (Turn S A)) (s m : S) (x : Turn S A) (a : A) (p q r : HostState) → x ≡ leave a → Grows p q (λ t. Reaches body s t m) → DidIn outs (body m) q r (Some x) → DidIn outs (Loops body s) p r (Some a)
loop_left body s m x a p q r is g h = record { trace = g.trace ++ h.trace; grew = grew_more p q r g.trace h.trace g.grew h.grew; holds = record { first = g.trace; rest = h.trace; between = m; splits = refl; does = g.holds; goes = subst (body m h.trace) is h.holds } }

-- likewise, where the answer is known by an equation
pub did_then_at : {A B : Type 0} {outs : List Out} (S : Step A) (W : A → Step B) (p q r : HostState) (a x : A) (b : Option B) → a ≡ x → Keeps (WritesOnly outs) S → DidIn outs S p q (Some a) → DidIn outs (W x) q r b → DidIn outs (Then S W) p r b
did_then_at {outs = outs} S W p q r a x b is keeps g h = did_then S W p q r x b keeps (subst (λ y. DidIn outs S p q (Some y)) is g) h

pub did_both_at : {A B : Type 0} {outs : List Out} (S : Step A) (W : A → Step B) (p q r : HostState) (a x : A) (b : B) → a ≡ x → DidIn outs S p q (Some a) → DidIn outs (W x) q r (Some b) → DidIn outs (Then S W) p r (Some b)
did_both_at {outs = outs} S W p q r a x b is g h = did_both S W p q r x b (subst (λ y. DidIn outs S p q (Some y)) is g) h

-- ---- loops that can be left from wherever they are

pub record Leaves {S A : Type 0} (body : S → Step (Turn S A)) (s : S) : Type 0 where
  pub trace : List Event
  pub answer : A
  pub does : body s trace (leave answer)

pub can_loop : {S A : Type 0} (body : S → Step (Turn S A)) (s : S) → Leaves body s → Begins (Loops body s) []
can_loop body s l = record { rest = l.trace; answer = l.answer; whole = record { first = []; rest = l.trace; between = s; splits = refl; does = here [] s refl refl; goes = l.does } }

loop_begins : {S A : Type 0} (body : S → Step (Turn S A)) (s m : S) (t u : List Event) → ((n : S) → Leaves body n) → Reaches body s t m → (x : Turn S A) (rest : List Event) → body m (u ++ rest) x → Begins (Loops body s) (t ++ u)
loop_begins body s m t u can r (leave a) rest b = record { rest = rest; answer = a; whole = record { first = t; rest = u ++ rest; between = m; splits = append_assoc t u rest; does = r; goes = b } }
loop_begins body s m t u can r (again n) rest b =
    let l = can n in
    record {
      rest = rest ++ l.trace;
      answer = l.answer;
      whole = record {
        first = t ++ (u ++ rest);
        rest = l.trace;
        between = n;
        splits = sym (append_assoc (t ++ u) rest l.trace) ∙ ap (λ (k : List Event). k ++ l.trace) (append_assoc t u rest);
        does = turn (t ++ (u ++ rest)) t (u ++ rest) m n refl r b;
        goes = l.does;
      };
    }

-- turns that go on have only such events
throughout_turns : (outs : List Out) {S A : Type 0} (body : S → Step (Turn S A)) → ((x n : S) (u : List Event) → body x u (again n) → Throughout (WritesOnly outs) u) → (s m : S) (t : List Event) → Reaches body s t m → Throughout (WritesOnly outs) t
throughout_turns outs body goes s m t (here _ _ none is) = subst (Throughout (WritesOnly outs)) (sym none) tt
throughout_turns outs body goes s m t (turn _ first rest between _ splits before this) = subst (Throughout (WritesOnly outs)) (sym splits) (throughout_both (WritesOnly outs) first rest (throughout_turns outs body goes s between first before) (goes between m rest this))

-- memory ran out in a turn
pub loop_stopped : {S A : Type 0} {outs : List Out} (body : S → Step (Turn S A)) (s m : S) (p q r : HostState) → ((n : S) → Leaves body n) → ((x n : S) (u : List Event) → body x u (again n) → Throughout (WritesOnly outs) u) → Grows p q (λ t. Reaches body s t m) → DidIn outs (body m) q r None → DidIn outs (Loops body s) p r None
loop_stopped {outs = outs} body s m p q r can goes g h =
    let b = loop_begins body s m g.trace h.trace can g.holds h.holds.answer h.holds.rest h.holds.whole in
    record {
      trace = g.trace ++ h.trace;
      grew = grew_more p q r g.trace h.trace g.grew h.grew;
      holds = record { rest = b.rest; answer = b.answer; whole = b.whole; only = throughout_both (WritesOnly outs) g.trace h.trace (throughout_turns outs body goes s m g.trace g.holds) h.holds.only };
    }
