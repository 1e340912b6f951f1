-- What leaves outs as they were: reading leaves all of them, and writing to one the others.
use Rattle.std.proofs.Common.{◌≡◌, ℕ, List, [], ◌∷◌, ◌++◌, map, Bool, true, false, ap, ◌∙◌, subst}
use Rattle.tl_base.specs.Outside.{View, written_of, with_written}
use Rattle.tl_base.specs.declared.host.Out.{Out}
use Rattle.outside.specs.Events.{Event, Outside, opened, took, ended, read_failed, created, put, write_failed, listened, connected, accepted, told}
use Rattle.outside.specs.Laws.{Throughout}
use Rattle.outside.specs.Pieces.{Writes}
use Rattle.outside.specs.Fits.{Happens, Fits}

-- a slot is opened, or read
abbrev pub IsReading : Event → Type 0
IsReading (opened slot name ok) = Unit {0}
IsReading (took slot bytes) = Unit {0}
IsReading (ended slot) = Unit {0}
IsReading (read_failed slot) = Unit {0}
IsReading (created out name ok) = ⊥
IsReading (put out bytes) = ⊥
IsReading (write_failed out) = ⊥
IsReading (listened address ok) = ⊥
IsReading (connected address ok) = ⊥
IsReading (accepted ok) = ⊥
IsReading (told moment) = ⊥

read_leaves : (e : Event) (s n : Outside) → Happens e s n → IsReading e → n.view.written ≡ s.view.written
read_leaves (opened slot name true) s n h k = ap (λ (v : View). v.written) h.0.2
read_leaves (opened slot name false) s n h k = ap (λ (v : View). v.written) h.0
read_leaves (took slot bytes) s n h k = ap (λ (v : View). v.written) h.1
read_leaves (ended slot) s n h k = ap (λ (v : View). v.written) h.1
read_leaves (read_failed slot) s n h k = ap (λ (v : View). v.written) h.0
read_leaves (created out name ok) s n h k = absurd k
read_leaves (put out bytes) s n h k = absurd k
read_leaves (write_failed out) s n h k = absurd k
read_leaves (listened address ok) s n h k = absurd k
read_leaves (connected address ok) s n h k = absurd k
read_leaves (accepted ok) s n h k = absurd k
read_leaves (told moment) s n h k = absurd k

pub reading_leaves : (t : List Event) (s n : Outside) → Fits t s n → Throughout IsReading t → n.view.written ≡ s.view.written
reading_leaves [] s n f k = ap (λ (o : Outside). o.view.written) f
reading_leaves (e ∷ t) s n f k = reading_leaves t f.0 n f.2 k.1 ∙ read_leaves e s f.0 f.1 k.0

-- writing to an out leaves a part that is none of that out's
module _ (out : Out) (part : View → List ℕ) (apart : (bytes : List ℕ) (v : View) → part (with_written out bytes v) ≡ part v) where
  pieces_leave : (pieces : List (List ℕ)) (last : List Event) (s n : Outside) → ((m : Outside) → Fits last m n → part n.view ≡ part m.view) → Fits (map (put out) pieces ++ last) s n → part n.view ≡ part s.view
  pieces_leave [] last s n end f = end s f
  pieces_leave (p ∷ pieces) last s n end f = pieces_leave pieces last f.0 n end f.2 ∙ (ap part f.1.0 ∙ apart (written_of out s.view ++ p) s.view)

  pub writes_leave : (bytes : List ℕ) (t : List Event) (ok : Bool) (s n : Outside) → Writes out bytes t ok → Fits t s n → part n.view ≡ part s.view
  writes_leave bytes t true s n h f = pieces_leave h.pieces [] s n (λ m g. ap (λ (o : Outside). part o.view) g) (subst (λ (l : List Event). Fits l s n) h.events f)
  writes_leave bytes t false s n h f =
      pieces_leave h.2.pieces (write_failed out ∷ []) s n (λ m g. ap (λ (o : Outside). part o.view) g.2 ∙ ap part g.1.0) (subst (λ (l : List Event). Fits l s n) h.2.events f)
