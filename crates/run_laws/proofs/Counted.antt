-- A failure raises the count of its kind, and no count falls.
use Rattle.std.proofs.Common.{◌≡◌, ◌≤◌, List, [], ◌∷◌, Bool, true, false, Some, None, sym, subst, arith, inl, inr}
use Rattle.tl_base.specs.Causes.{Rose}
use Rattle.tl_base.specs.Kinds.{count_of, slot_kind, out_kind}
use Rattle.tl_base.specs.declared.counts.Counts.{Counts}
use Rattle.tl_base.specs.declared.counts.Kind.{Kind}
use Rattle.tl_base.specs.declared.counts.Kind.TheVariants as kinds
use Rattle.outside.specs.Events.{Event, counted, counted_all, counted_as, counted_unless, opened, took, ended, read_failed, created, put, write_failed, listened, connected, accepted, told}
use Rattle.outside.specs.Laws.{IsFailure}
use Rattle.run_laws.specs.Touched.{AreCounts, FailuresAreCounted}

-- this count rose, or at least didn't fall; and all are in range
record Later (kind : Kind) (c d : Counts) : Type 0 where
  pub least : count_of kind c ≤ count_of kind d
  pub small : AreCounts d

same : (kind : Kind) (c : Counts) → AreCounts c → Later kind c c
same kind c small = record { least = omega arith; small = small }

small_as : (kind : Kind) (c : Counts) → AreCounts c → AreCounts (counted_as kind c)
small_as kinds.Reads c small kinds.Reads = omega (arith, small kinds.Reads)
small_as kinds.Reads c small kinds.Writes = small kinds.Writes
small_as kinds.Reads c small kinds.Links = small kinds.Links
small_as kinds.Writes c small kinds.Reads = small kinds.Reads
small_as kinds.Writes c small kinds.Writes = omega (arith, small kinds.Writes)
small_as kinds.Writes c small kinds.Links = small kinds.Links
small_as kinds.Links c small kinds.Reads = small kinds.Reads
small_as kinds.Links c small kinds.Writes = small kinds.Writes
small_as kinds.Links c small kinds.Links = omega (arith, small kinds.Links)

least_as : (kind of : Kind) (c : Counts) → AreCounts c → count_of kind c ≤ count_of kind (counted_as of c)
least_as kinds.Reads kinds.Reads c small = omega (arith, small kinds.Reads)
least_as kinds.Reads kinds.Writes c small = omega arith
least_as kinds.Reads kinds.Links c small = omega arith
least_as kinds.Writes kinds.Reads c small = omega arith
least_as kinds.Writes kinds.Writes c small = omega (arith, small kinds.Writes)
least_as kinds.Writes kinds.Links c small = omega arith
least_as kinds.Links kinds.Reads c small = omega arith
least_as kinds.Links kinds.Writes c small = omega arith
least_as kinds.Links kinds.Links c small = omega (arith, small kinds.Links)

later_as : (kind of : Kind) (c : Counts) → AreCounts c → Later kind c (counted_as of c)
later_as kind of c small = record { least = least_as kind of c small; small = small_as of c small }

later_unless : (kind of : Kind) (ok : Bool) (c : Counts) → AreCounts c → Later kind c (counted_unless of ok c)
later_unless kind of true c small = same kind c small
later_unless kind of false c small = later_as kind of c small

later_event : (kind : Kind) (e : Event) (c : Counts) → AreCounts c → Later kind c (counted e c)
later_event kind (opened slot name ok) c small = later_unless kind (slot_kind slot) ok c small
later_event kind (took slot bytes) c small = same kind c small
later_event kind (ended slot) c small = same kind c small
later_event kind (read_failed slot) c small = later_as kind (slot_kind slot) c small
later_event kind (created out name ok) c small = later_unless kind (out_kind out) ok c small
later_event kind (put out bytes) c small = same kind c small
later_event kind (write_failed out) c small = later_as kind (out_kind out) c small
later_event kind (listened address ok) c small = later_unless kind kinds.Links ok c small
later_event kind (connected address ok) c small = later_unless kind kinds.Links ok c small
later_event kind (accepted ok) c small = later_unless kind kinds.Links ok c small
later_event kind (told moment) c small = same kind c small

later_all : (kind : Kind) (t : List Event) (c : Counts) → AreCounts c → Later kind c (counted_all t c)
later_all kind [] c small = same kind c small
later_all kind (e ∷ t) c small =
    let one = later_event kind e c small in
    let rest = later_all kind t (counted e c) one.small in
    record { least = omega (arith, one.least, rest.least); small = rest.small }

-- ---- a failure

rose_as : (kind : Kind) (c : Counts) → Rose (count_of kind c) (count_of kind (counted_as kind c))
rose_as kinds.Reads c = omega arith
rose_as kinds.Writes c = omega arith
rose_as kinds.Links c = omega arith

rose_of : (kind of : Kind) (c : Counts) → Some of ≡ Some kind → Rose (count_of kind c) (count_of kind (counted_as of c))
rose_of kind of c is = (let one : of ≡ kind = cc in subst (λ (k : Kind). Rose (count_of kind c) (count_of kind (counted_as k c))) (sym one) (rose_as kind c))

none_some : {a : Kind} → None ≡ Some a → ⊥
none_some {a} is = let one : None ≡ Some a = is in cc

rose_event : (kind : Kind) (e : Event) (c : Counts) → IsFailure kind e → Rose (count_of kind c) (count_of kind (counted e c))
rose_event kind (opened slot name true) c is = absurd (none_some is)
rose_event kind (opened slot name false) c is = rose_of kind (slot_kind slot) c is
rose_event kind (took slot bytes) c is = absurd (none_some is)
rose_event kind (ended slot) c is = absurd (none_some is)
rose_event kind (read_failed slot) c is = rose_of kind (slot_kind slot) c is
rose_event kind (created out name true) c is = absurd (none_some is)
rose_event kind (created out name false) c is = rose_of kind (out_kind out) c is
rose_event kind (put out bytes) c is = absurd (none_some is)
rose_event kind (write_failed out) c is = rose_of kind (out_kind out) c is
rose_event kind (listened address true) c is = absurd (none_some is)
rose_event kind (listened address false) c is = rose_of kind kinds.Links c is
rose_event kind (connected address true) c is = absurd (none_some is)
rose_event kind (connected address false) c is = rose_of kind kinds.Links c is
rose_event kind (accepted true) c is = absurd (none_some is)
rose_event kind (accepted false) c is = rose_of kind kinds.Links c is
rose_event kind (told moment) c is = absurd (none_some is)

pub failures_are_counted : FailuresAreCounted
failures_are_counted kind [] c small some = absurd some
failures_are_counted kind (e ∷ t) c small (inl here) =
    let one = later_event kind e c small in
    let rest = later_all kind t (counted e c) one.small in
    omega (arith, rose_event kind e c here, rest.least)
failures_are_counted kind (e ∷ t) c small (inr later) =
    let one = later_event kind e c small in
    omega (arith, one.least, failures_are_counted kind t (counted e c) one.small later)
