-- A line that is put to Output or to Errors, or a beginning of it.
use Rattle.std.proofs.Common.{◌≡◌, ◌⊎◌, inl, inr, ℕ, ◌<◌, List, [], ◌∷◌, ◌++◌, length, append-nil, append_assoc, map, Bool, true, false, refl, sym, ap, ◌∙◌, subst, arith}
use Rattle.tl_base.proofs.Parts.{written_back}
use Rattle.tl_base.specs.Outside.{View, written_of, with_written}
use Rattle.tl_base.specs.declared.host.Out.{Out}
use Rattle.tl_base.specs.declared.host.Out.TheVariants as outs
use Rattle.outside.specs.Kept.{AddsPrefix}
use Rattle.outside.specs.Telling as telling
use Rattle.outside.specs.Events.{Event, Outside, opened, took, ended, read_failed, created, put, write_failed, listened, connected, accepted, told}
use Rattle.outside.specs.Laws.{Throughout}
use Rattle.outside.specs.Pieces.{joined, Tells, Writes}
use Rattle.outside.specs.Steps.{StepOf, Ends, Then}
use Rattle.outside.proofs.Causing.{keeps_write, throughout_first}
use Rattle.outside.specs.Fits.{Happens, Fits}
use Rattle.outside.proofs.Fitting.{writes_append}
use Rattle.session_rooms.proofs.LeftViews.{all_leave, beside}
use Rattle.serve_rooms.specs.Acts.{Act, events_in}
use Rattle.serve_rooms.specs.Doing.{Hosted}
use Rattle.run_laws.specs.Ended.{ErrorsFailed}
use Rattle.run_laws.proofs.Untold.{unwritten_errors}
use Rattle.run_laws.proofs.serving.Beginnings.{Seam, within, past, heads, hosted_both, hosted_events, nothing_after, nothing_follows, seam, some_more, tails}

abbrev pub output_of : Outside → List ℕ
output_of s = s.view.written.output

abbrev pub errors_of : Outside → List ℕ
errors_of s = s.view.written.errors

-- ---- prefixes

pub longer : (old new text before after : List ℕ) → AddsPrefix old new before → before ++ after ≡ text → AddsPrefix old new text
longer old new text before after (prefix, rest, both, is) more = (prefix, rest ++ after, sym (append_assoc prefix rest after) ∙ ap (λ (l : List ℕ). l ++ after) both ∙ more, is)

pub all_added : (old new text : List ℕ) → new ≡ old ++ text → AddsPrefix old new text
all_added old new text is = (text, [], append-nil text, is)

pub none_added : (old new text : List ℕ) → new ≡ old → AddsPrefix old new text
none_added old new text is = ([], text, refl, is ∙ sym (append-nil old))

-- a prefix after a whole text
pub added_after : (old mid new first text : List ℕ) → mid ≡ old ++ first → AddsPrefix mid new text → AddsPrefix old new (first ++ text)
added_after old mid new first text whole (prefix, rest, both, is) =
    (first ++ prefix, rest, append_assoc first prefix rest ∙ ap (λ (l : List ℕ). first ++ l) both, is ∙ ap (λ (l : List ℕ). l ++ prefix) whole ∙ append_assoc old first prefix)

pub told_prefix : (W : Type 0) (line : List ℕ) (v w : View) → telling.Tells W line v w → AddsPrefix v.written.errors w.written.errors line
told_prefix W line v w (inl is) = all_added v.written.errors w.written.errors line is
told_prefix W line v w (inr (failed, prefix)) = prefix

-- ---- what is put to an out

abbrev pub Puts : Out → Event → Type 0
Puts out (opened slot name ok) = ⊥
Puts out (took slot bytes) = ⊥
Puts out (ended slot) = ⊥
Puts out (read_failed slot) = ⊥
Puts out (created o name ok) = ⊥
Puts out (put o bytes) = o ≡ out
Puts out (write_failed o) = Unit {0}
Puts out (listened address ok) = ⊥
Puts out (connected address ok) = ⊥
Puts out (accepted ok) = ⊥
Puts out (told moment) = ⊥

-- it leaves what is none of the out's
module _ {A : Type 0} (out : Out) (part : View → A) (apart : (bytes : List ℕ) (v : View) → part (with_written out bytes v) ≡ part v) where
  put_apart : (o : Out) (bytes : List ℕ) (s n : Outside) → n.view ≡ with_written o (written_of o s.view ++ bytes) s.view → o ≡ out → part n.view ≡ part s.view
  put_apart o bytes s n is same = ap part (subst (λ (x : Out). n.view ≡ with_written x (written_of x s.view ++ bytes) s.view) same is) ∙ apart (written_of out s.view ++ bytes) s.view

  put_leaves : (e : Event) (s n : Outside) → Happens e s n → Puts out e → part n.view ≡ part s.view
  put_leaves (opened slot name ok) s n h k = absurd k
  put_leaves (took slot bytes) s n h k = absurd k
  put_leaves (ended slot) s n h k = absurd k
  put_leaves (read_failed slot) s n h k = absurd k
  put_leaves (created o name ok) s n h k = absurd k
  put_leaves (put o bytes) s n h k = put_apart o bytes s n h.0 k
  put_leaves (write_failed o) s n h k = ap part h.0
  put_leaves (listened address ok) s n h k = absurd k
  put_leaves (connected address ok) s n h k = absurd k
  put_leaves (accepted ok) s n h k = absurd k
  put_leaves (told moment) s n h k = absurd k

  pub puts_leave : (t : List Event) (s n : Outside) → Throughout (Puts out) t → Fits t s n → part n.view ≡ part s.view
  puts_leave = all_leave part (Puts out) put_leaves

-- the beginning of what is written puts to the out alone
begun_puts : (out : Out) (line : List ℕ) (t u : List Event) (ok : Bool) → Writes out line (t ++ u) ok → Throughout (Puts out) t
begun_puts out line t u ok h = throughout_first (Puts out) t u (keeps_write (Puts out) out line (λ piece. refl) tt (t ++ u) ok h)

module _ (out : Out) where
  none_put : (t u : List Event) (a b : Outside) → t ++ u ≡ [] → Fits t a b → written_of out b.view ≡ written_of out a.view
  none_put t u a b e f = ap (λ (o : Outside). written_of out o.view) (subst (λ (l : List Event). Fits l a b) (nothing_follows t u e) f)

  failed_put : (t u : List Event) (a b : Outside) → t ++ u ≡ write_failed out ∷ [] → Fits t a b → written_of out b.view ≡ written_of out a.view
  failed_put [] u a b e f = ap (λ (o : Outside). written_of out o.view) f
  failed_put (x ∷ t) u a b e f =
      let here : Happens (write_failed out) a f.0 = subst (λ (y : Event). Happens y a f.0) (heads x (write_failed out) (t ++ u) [] e) f.1 in
      none_put t u f.0 b (tails x (write_failed out) (t ++ u) [] e) f.2 ∙ ap (written_of out) here.0

  pieces_begun : (pieces : List (List ℕ)) (last : List Event) → ((t u : List Event) (a b : Outside) → t ++ u ≡ last → Fits t a b → written_of out b.view ≡ written_of out a.view) → (t u : List Event) (a b : Outside) → t ++ u ≡ map (put out) pieces ++ last → Fits t a b
      → AddsPrefix (written_of out a.view) (written_of out b.view) (joined pieces)
  pieces_begun [] last end t u a b e f = none_added (written_of out a.view) (written_of out b.view) [] (end t u a b e f)
  pieces_begun (p ∷ pieces) last end [] u a b e f = none_added (written_of out a.view) (written_of out b.view) (p ++ joined pieces) (ap (λ (o : Outside). written_of out o.view) f)
  pieces_begun (p ∷ pieces) last end (x ∷ t) u a b e f =
      let rest = map (put out) pieces ++ last in
      let here : Happens (put out p) a f.0 = subst (λ (y : Event). Happens y a f.0) (heads x (put out p) (t ++ u) rest e) f.1 in
      let one : written_of out f.0.view ≡ written_of out a.view ++ p = ap (written_of out) here.0 ∙ written_back out (written_of out a.view ++ p) a.view in
      added_after (written_of out a.view) (written_of out f.0.view) (written_of out b.view) p (joined pieces) one (pieces_begun pieces last end t u f.0 b (tails x (put out p) (t ++ u) rest e) f.2)

  -- of what is written a prefix was added
  pub writes_begun : (line : List ℕ) (t u : List Event) (ok : Bool) (a b : Outside) → Writes out line (t ++ u) ok → Fits t a b → AddsPrefix (written_of out a.view) (written_of out b.view) line
  writes_begun line t u true a b h f = subst (λ (l : List ℕ). AddsPrefix (written_of out a.view) (written_of out b.view) l) h.join (pieces_begun h.pieces [] none_put t u a b h.events f)
  writes_begun line t u false a b (before, after, q, is, some) f =
      longer (written_of out a.view) (written_of out b.view) line before after
      (subst (λ (l : List ℕ). AddsPrefix (written_of out a.view) (written_of out b.view) l) q.join (pieces_begun q.pieces (write_failed out ∷ []) failed_put t u a b q.events f)) is

  pub writes_some : (line : List ℕ) (t : List Event) (a b : Outside) → Writes out line t false → Fits t a b → AddsPrefix (written_of out a.view) (written_of out b.view) line
  writes_some line t a b h f = writes_begun line t [] false a b (subst (λ (l : List Event). Writes out line l false) (sym (append-nil t)) h) f

-- ---- Output and Errors

-- a beginning of a line on Output leaves all else
pub record OnOutput (a b : Outside) : Type 0 where
  pub errors : errors_of b ≡ errors_of a
  pub rest : beside b.view ≡ beside a.view

pub on_output : (line : List ℕ) (t u : List Event) (ok : Bool) (a b : Outside) → Writes outs.Output line (t ++ u) ok → Fits t a b → OnOutput a b
on_output line t u ok a b h f = record {
  errors = puts_leave outs.Output (λ (v : View). v.written.errors) (λ bytes v. refl) t a b (begun_puts outs.Output line t u ok h) f;
  rest = puts_leave outs.Output beside (λ bytes v. refl) t a b (begun_puts outs.Output line t u ok h) f;
}

-- and so does one on Errors
pub record OnErrors (a b : Outside) : Type 0 where
  pub output : output_of b ≡ output_of a
  pub rest : beside b.view ≡ beside a.view

pub on_errors : (line : List ℕ) (t u : List Event) (ok : Bool) (a b : Outside) → Writes outs.Errors line (t ++ u) ok → Fits t a b → OnErrors a b
on_errors line t u ok a b h f = record {
  output = puts_leave outs.Errors (λ (v : View). v.written.output) (λ bytes v. refl) t a b (begun_puts outs.Errors line t u ok h) f;
  rest = puts_leave outs.Errors beside (λ bytes v. refl) t a b (begun_puts outs.Errors line t u ok h) f;
}

pub nothing_on : (a b : Outside) → b ≡ a → OnErrors a b
nothing_on a b is = record { output = ap output_of is; rest = ap (λ (o : Outside). beside o.view) is }

-- ---- a line that is told

-- told as far as it can be; or begun, and more is to come
abbrev pub LineSo : Type 0 → Type 0 → Type 0 → List ℕ → Outside → Outside → Type 0
LineSo done more W line a b = (done × telling.Tells W line a.view b.view) ⊎ (more × AddsPrefix (errors_of a) (errors_of b) line)

pub so_prefix : (done more W : Type 0) (line : List ℕ) (a b : Outside) → LineSo done more W line a b → AddsPrefix (errors_of a) (errors_of b) line
so_prefix done more W line a b (inl (is, h)) = told_prefix W line a.view b.view h
so_prefix done more W line a b (inr (some, h)) = h

-- whole, or a prefix of it where a write to Errors failed
pub errors_told : (line : List ℕ) (t : List Event) (ok : Bool) (a b : Outside) → Writes outs.Errors line t ok → Fits t a b → telling.Tells (ErrorsFailed t) line a.view b.view
errors_told line t true a b h f = inl (writes_append outs.Errors line t a b h f)
errors_told line t false a b h f = inr (unwritten_errors line t h, writes_some outs.Errors line t a b h f)

pub line_so : (line : List ℕ) (t u : List Event) (ok : Bool) (a b : Outside) → Writes outs.Errors line (t ++ u) ok → Fits t a b → LineSo (u ≡ []) (0 < length u) (ErrorsFailed t) line a b
line_so line t [] ok a b h f = inl (refl, errors_told line t ok a b (subst (λ (l : List Event). Writes outs.Errors line l ok) (append-nil t) h) f)
line_so line t (e ∷ u) ok a b h f = inr (omega arith, writes_begun outs.Errors line t (e ∷ u) ok a b h f)

-- a line by which something ends
tells_writes : {A : Type 0} (line : List ℕ) (status : A) (t : List Event) (r : A) (h : Tells line status t r) → Writes outs.Errors line t h.between
tells_writes line status t r h = subst (λ (l : List Event). Writes outs.Errors line l h.between) (sym (h.splits ∙ ap (λ (l : List Event). h.first ++ l) h.goes.0 ∙ append-nil h.first)) h.does

pub record Lined {A : Type 0} (W : Type 0) (line : List ℕ) (status : A) (u : List Event) (r : A) (a b : Outside) : Type 0 where
  pub on : OnErrors a b
  pub line_is : LineSo (u ≡ []) (0 < length u) W line a b
  pub status_is : r ≡ status

pub lined : {A : Type 0} (line : List ℕ) (status : A) (t u : List Event) (r : A) (a b : Outside) → Tells line status (t ++ u) r → Fits t a b → Lined (ErrorsFailed t) line status u r a b
lined line status t u r a b h f = record {
  on = on_errors line t u h.between a b (tells_writes line status (t ++ u) r h) f;
  line_is = line_so line t u h.between a b (tells_writes line status (t ++ u) r h) f;
  status_is = h.goes.1;
}

-- likewise of acts, where nothing comes after it
pub record LineEnd {A : Type 0} (W : Type 0) (line : List ℕ) (x : A) (u : List Act) (r : A) (a b : Outside) : Type 0 where
  pub on : OnErrors a b
  pub line_is : LineSo ((u ≡ []) × (r ≡ x)) (0 < length u) W line a b

module _ {S A : Type 0} (line : List ℕ) (status : S) (into : S → A) (t u : List Act) (r : A) (a b : Outside) (f : Fits (events_in t) a b) where
  abbrev pub Line : StepOf Act A
  Line = Then (Hosted (Tells line status)) (λ s. Ends (into s))

  abbrev pub Done : Type 0
  Done = LineEnd (ErrorsFailed (events_in t)) line (into status) u r a b

  line_whole : (s : S) (done : u ≡ []) → r ≡ into s → Hosted (Tells line status) t s → Done
  line_whole s done is (events, at, h) =
      let same : events ≡ events_in t = sym (hosted_events t events at) in
      let tells : Tells line status (events_in t ++ []) s = subst (λ (l : List Event). Tells line status l s) (same ∙ sym (append-nil (events_in t))) h in
      let l = lined line status (events_in t) [] s a b tells f in
      record {
        on = l.on;
        line_is = elim l.line_is as (λ z. LineSo ((u ≡ []) × (r ≡ into status)) (0 < length u) (ErrorsFailed (events_in t)) line a b) [
          | inl (none, tells) ↦ inl ((done, is ∙ ap into l.status_is), tells)
          | inr (some, prefix) ↦ absurd (omega (arith, some))
        ];
      }

  line_begun : (s : S) (more : List Act) → 0 < length u → Hosted (Tells line status) (t ++ more) s → Done
  line_begun s more some h =
      let l = lined line status (events_in t) (events_in more) s a b (hosted_both (Tells line status) t more s h) f in
      record { on = l.on; line_is = inr (some, so_prefix (events_in more ≡ []) (0 < length (events_in more)) (ErrorsFailed (events_in t)) line a b l.line_is) }

  line_at : (h : Line (t ++ u) r) → Seam t u h.first h.rest → Done
  line_at h (within more is at some) = line_begun h.between more (some_more u more h.rest at some) (subst (λ (l : List Act). Hosted (Tells line status) l h.between) is h.does)
  line_at h (past more is at) =
      let none : more ++ u ≡ [] = sym at ∙ h.goes.0 in
      let all : h.first ≡ t = sym (is ∙ ap (λ (l : List Act). h.first ++ l) (nothing_follows more u none) ∙ append-nil h.first) in
      line_whole h.between (nothing_after more u none) h.goes.1 (subst (λ (l : List Act). Hosted (Tells line status) l h.between) all h.does)

  pub line_end : Line (t ++ u) r → Done
  line_end h = line_at h (seam t u h.first h.rest h.splits)
