-- What a server answers from a boundary: a run of the events there, which makes the list that it is.
use Rattle.std.proofs.Common.{◌≡◌, ℕ, zero, suc, ◌+◌, ◌-◌, List, [], ◌∷◌, ◌++◌, length, Bool, true, false, ◌&&◌, Some, Ok, leb, eqb, if◌then◌else◌, refl, sym, ap, ap₂, ◌∙◌, subst, arith}
use Rattle.std.proofs.lemmas.Bool.Decides.{nat_tests}
use Rattle.box_events.specs.Events.{EventView, is_new, count_of}
use Rattle.box_events.specs.Boxes.{ending, IsBoundary, Between, AreCounted}
use Rattle.box_events.proofs.Boundaries.{ending-append}
use Rattle.box_events.specs.Weaving.{bodies, others_from}
use Rattle.box_events.specs.Weaves.{woven_of}
use Rattle.box_events.proofs.Made.{is_made}
use Rattle.box_events.proofs.Merged.{new_first}
use Rattle.box_server.specs.Entries.{bytes_of}
use Rattle.box_server.specs.Runs.{events_after, limited, run_of}
use Rattle.box_server.specs.Answers.{is_whole}
use Rattle.box_server.proofs.AfterNumbers.{after_prefix}
use Rattle.box_world.specs.Agreeing.{Each}
use Rattle.box_world.specs.Growing.{HasMore}

pub append_append : {A : Type 0} (xs ys zs : List A) → (xs ++ ys) ++ zs ≡ xs ++ (ys ++ zs)
append_append [] ys zs = refl
append_append {A} (x ∷ xs) ys zs = ap (λ (l : List A). x ∷ l) (append_append xs ys zs)

-- ---- runs

abbrev HasPrefix : (A : Type 0) → List A → List A → Type 0
HasPrefix A prefix xs = (more : List A) × (xs ≡ prefix ++ more)

limited_by : {A : Type 0} (size : A → ℕ) (n b : ℕ) (x : A) (xs : List A) (t : Bool) → HasPrefix A (limited size n (b - size x) xs) xs
    → HasPrefix A (if t then x ∷ limited size n (b - size x) xs else []) (x ∷ xs)
limited_by {A} size n b x xs true h = (h.0, ap (λ (l : List A). x ∷ l) h.1)
limited_by size n b x xs false h = (x ∷ xs, refl)

prefix_of : {A : Type 0} (size : A → ℕ) (n b : ℕ) (xs : List A) → HasPrefix A (limited size n b xs) xs
unfolding limited
prefix_of size zero b xs = (xs, refl)
prefix_of size (suc n) b [] = ([], refl)
prefix_of size (suc n) b (x ∷ xs) = limited_by size n b x xs (leb (size x) b) (prefix_of size n (b - size x) xs)

-- the events after a number, and a run of them
pub record RunAt (box : List EventView) (p : ℕ) (es : List EventView) : Type 0 where
  pub prefix : List EventView
  pub whole : box ≡ prefix ++ es
  pub stop : ending prefix ≡ p
  pub rest : List EventView
  pub run : es ≡ run_of es ++ rest

pub counted_left : (xs ys : List EventView) → AreCounted (xs ++ ys) → AreCounted xs
counted_left [] ys c = tt
counted_left (x ∷ xs) ys c = (c.0, counted_left xs ys c.1)

pub run_at : (box : List EventView) (p : ℕ) → (b : IsBoundary box p) → RunAt box p b.rest
run_at box p b =
    let k = prefix_of bytes_of 100 262144 b.rest in
    record { prefix = b.prefix; whole = b.whole; stop = b.stop; rest = k.0; run = k.1 }

pub run_after : (box : List EventView) (p : ℕ) → AreCounted box → (b : IsBoundary box p) → events_after box p ≡ Some b.rest
run_after box p c b = ap₂ events_after b.whole (sym b.stop) ∙ after_prefix b.prefix b.rest (counted_left b.prefix b.rest (subst AreCounted b.whole c))

-- the run lies in the box, and in each that has more
pub run_lies : (prefix box : List EventView) (p : ℕ) (es : List EventView) → HasMore prefix box → RunAt prefix p es → Between box p (p + ending (run_of es)) (run_of es)
run_lies prefix box p es m r = record {
  prefix = r.prefix;
  rest = r.rest ++ m.0;
  whole = m.1 ∙ ap (λ (l : List EventView). l ++ m.0) (r.whole ∙ ap (λ (l : List EventView). r.prefix ++ l) r.run)
      ∙ append_append r.prefix (run_of es ++ r.rest) m.0 ∙ ap (λ (l : List EventView). r.prefix ++ l) (append_append (run_of es) r.rest m.0);
  start = r.stop;
  stop = ending-append r.prefix (run_of es) ∙ ap (λ (n : ℕ). n + ending (run_of es)) r.stop;
}

pub run_woven : (p : ℕ) (es : List EventView) → woven_of p (p + ending es) (bodies es) (others_from p es) ≡ Ok es
run_woven p es = is_made p (p + ending es) (bodies es) (others_from p es) es (record { sum = refl; messages = refl; rest = refl })

pub none_woven : (p : ℕ) → woven_of p p [] [] ≡ Ok []
none_woven p = is_made p p [] [] [] (record { sum = omega arith; messages = refl; rest = refl })

-- ---- messages alone

pub each_left : {A : Type 0} (P : A → Type 0) (xs ys : List A) → Each P (xs ++ ys) → Each P xs
each_left P [] ys h = tt
each_left P (x ∷ xs) ys h = (h.0, each_left P xs ys h.1)

pub each_right : {A : Type 0} (P : A → Type 0) (xs ys : List A) → Each P (xs ++ ys) → Each P ys
each_right P [] ys h = h
each_right P (x ∷ xs) ys h = each_right P xs ys h.1

pub no_others : (p : ℕ) (es : List EventView) → Each (λ e. is_new e ≡ true) es → others_from p es ≡ []
no_others p [] h = refl
no_others p (e ∷ es) h = (new_first e es p h.0).1 ∙ no_others (p + count_of e) es h.1

pub messages_woven : (q : ℕ) (es : List EventView) → Each (λ e. is_new e ≡ true) es → woven_of q (q + ending es) (bodies es) [] ≡ Ok es
messages_woven q es h = ap (woven_of q (q + ending es) (bodies es)) (sym (no_others q es h)) ∙ run_woven q es

-- ---- whole runs

pub both_true : (a b : Bool) → a && b ≡ true → (a ≡ true) × (b ≡ true)
both_true true b e = (refl, e)
both_true false b e = absurd cc

same_length : (a b : ℕ) → eqb a b ≡ true → a ≡ b
same_length a b e = grind (arith, nat_tests)

no_items : {A : Type 0} (xs : List A) → length xs ≡ 0 → xs ≡ []
no_items [] e = refl
no_items (x ∷ xs) e = absurd (omega (arith, e))

pub whole_run : (box : List EventView) (p : ℕ) (es : List EventView) → RunAt box p es → is_whole es ≡ true → p + ending (run_of es) ≡ ending box
whole_run box p es r e =
    let n : ending (run_of es) ≡ ending es = same_length (ending (run_of es)) (ending es) e in
    let sum : ending box ≡ ending r.prefix + ending es = ap ending r.whole ∙ ending-append r.prefix es in
    omega (arith, sum, r.stop, n)

pub empty_run : (es : List EventView) → eqb (length es) 0 ≡ true → es ≡ []
empty_run es e = no_items es (same_length (length es) 0 e)
