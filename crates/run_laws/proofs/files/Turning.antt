-- What a run of `calls` tells of a file's packets, also where it is cut short.
use Rattle.std.proofs.Common.{◌≡◌, ◌⊎◌, ℕ, ◌+◌, ◌<◌, List, [], ◌∷◌, ◌++◌, length, length-append, append-nil, append_assoc, Bool, true, false, codes, decimal, refl, sym, ap, ◌∙◌, subst, inr, arith}
use Rattle.tl_numbers.specs.Bytes.{AreBytes}
use Rattle.tl_base.specs.Packets.{IsPacketLength, packet}
use Rattle.tl_base.specs.Outside.{left_of}
use Rattle.tl_base.specs.declared.counts.Kind.TheVariants as kinds
use Rattle.tl_base.specs.declared.host.Out.TheVariants as outs
use Rattle.tl_base.specs.declared.host.Slot.TheVariants.{Input}
use Rattle.tl_schema.specs.CheckedPrograms.{IsSchema}
use Rattle.tl_schema.specs.Schemas.{Declared}
use Rattle.tl_calls.specs.Events.{Logged}
use Rattle.tl_base.specs.declared.packet.PacketCause.TheVariants.{BadLength, Ended}
use Rattle.outside.specs.Answer.{Answer, done, refused, refused_after, write_fault_line}
use Rattle.outside.specs.Kept.{AddsPrefix}
use Rattle.outside.specs.declared.status.Status.{Status}
use Rattle.outside.specs.declared.status.Status.TheVariants as statuses
use Rattle.outside.specs.Events.{Event, Outside}
use Rattle.outside.specs.Laws.{Happened, IsFailure, Throughout}
use Rattle.outside.specs.Packets.{PacketView, whole, wrong, TakesPacket}
use Rattle.outside.specs.Packets as packets
use Rattle.outside.specs.Pieces.{Tells, Writes}
use Rattle.outside.specs.Printing.{Prints, Unread, after_output}
use Rattle.outside.specs.Steps.{Step, Turn, again, leave, Ends, Reaches, here, turn, Then}
use Rattle.outside.proofs.Causing.{happened_last, keeps_write, throughout_both, throughout_first, unwritten as not_written}
use Rattle.outside.proofs.TakenPackets.{broken_packet, keeps_packet, whole_packet}
use Rattle.outside.specs.Fits.{Fits}
use Rattle.outside.specs.Reliable.{IsReliable, IsMissing}
use Rattle.outside.proofs.Fitting.{fits_both, fits_keeps, reads_fail_alone, reliable_on, writes_append, writes_fail_full}
use Rattle.schema_files.specs.Lines.{input_line}
use Rattle.call_commands.specs.CallReports.{Began, HasPacket, Next, PacketRefused, nothing, a_line}
use Rattle.call_commands.specs.CallReports as reports
use Rattle.call_commands.specs.Calls.{OfPackets}
use Rattle.call_commands.specs.Calls as answers
use Rattle.call_commands.proofs.EachFile.{answered_next, output_after}
use Rattle.call_commands.specs.CallsWork.{SoFar, so_far, Last, TellsRefusal, after_line, after_packet, end_of, OfPacket, no_packet, too_long, told, TellsNext, TellsPackets}
use Rattle.session_rooms.proofs.LeftPackets.{packet_left}
use Rattle.run_laws.proofs.files.Coming.{Spares, none_missing}
use Rattle.run_laws.proofs.files.Cutting.{Cut, past, within, cut, some_more}
use Rattle.run_laws.proofs.files.Spared.{IsDry, IsFileRead, ToOutput, dry_keeps, output_left, reads_to_errors, reads_to_output}
use Rattle.run_laws.proofs.serving.Lines.{writes_begun, writes_some}

abbrev pub output_of : Outside → List ℕ
output_of s = s.view.written.output

abbrev pub input_of : Outside → List ℕ
input_of s = left_of Input s.view

-- ---- what it comes to

-- an answer of this kind, whose Output begins with this
pub record BeginsWith (Is : Answer → Type 0) (written : List ℕ) : Type 0 where
  pub answer : Answer
  pub is : Is answer
  pub more : List ℕ
  pub output : answer.output ≡ written ++ more

-- files were read and lines put, and Output has grown by these
pub record Puts (C : Type 0) (s m : Outside) (t : List Event) (written : List ℕ) : Type 0 where
  pub fits : Fits t s m
  pub only : Throughout ToOutput t
  pub spares : Spares C t
  pub grew : output_of m ≡ output_of s ++ written

-- nothing was put; or it is what an answer of this kind begins with
abbrev pub IsBegun : Type 0 → (Answer → Type 0) → List ℕ → Type 0
IsBegun P Is written = (written ≡ []) ⊎ (P → BeginsWith Is written)

-- What the first events of a run come to, where these others follow: it is cut short; something can't be read, which has no answer where no call was told to fail; a line
-- can't be written; or all of an answer's Output was put, and its line is told.
pub data GoesTo (Is : Answer → Type 0) (P C : Type 0) (s n : Outside) (t u : List Event) (status : Status) : Type 0 where
  halted : 0 < length u → (written : List ℕ) → Puts C s n t written → IsBegun P Is written → GoesTo Is P C s n t u status
  unread : (first rest : List Event) (m : Outside) (written : List ℕ) → t ≡ first ++ rest → Puts C s m first written → Fits rest m n → IsBegun P Is written → Happened (IsFailure kinds.Reads) first → Unread (rest ++ u) status
      → (IsReliable s → (a : Answer) → Is a → ⊥) → GoesTo Is P C s n t u status
  unwritten : (first rest : List Event) (m : Outside) (written line : List ℕ) → t ≡ first ++ rest → Puts C s m first written → Fits rest m n → (P → BeginsWith Is written) → Happened (IsFailure kinds.Writes) first
      → Tells write_fault_line statuses.WriteFault (rest ++ u) status → (IsReliable s → s.view.room < length (output_of s) + length line) → (P → (a : Answer) → Is a → (more : List ℕ) × (a.output ≡ line ++ more))
      → GoesTo Is P C s n t u status
  ends : (a : Answer) (first rest : List Event) (m : Outside) → t ≡ first ++ rest → Puts C s m first a.output → Fits rest m n → Is a → Tells a.errors a.status (rest ++ u) status → GoesTo Is P C s n t u status

pub fits_join : (t u : List Event) (s m n : Outside) → Fits t s m → Fits u m n → Fits (t ++ u) s n
fits_join [] u s m n f g = subst (λ (o : Outside). Fits u o n) f g
fits_join (e ∷ t) u s m n f g = (f.0, f.1, fits_join t u f.0 m n f.2 g)

-- ---- turns

-- a run that ends by this
last_is : (S : Step Status) (t : List Event) (r : Turn SoFar Status) → Last S t r → (status : Status) × S t status × (r ≡ leave status)
last_is S t r h = (h.between, subst (λ (l : List Event). S l h.between) (sym (h.splits ∙ ap (λ (l : List Event). h.first ++ l) h.goes.0 ∙ append-nil h.first)) h.does, h.goes.1)

both_none : (t u : List Event) → t ++ u ≡ [] → (t ≡ []) × (u ≡ [])
both_none [] u is = (refl, is)
both_none (e ∷ t) u is = absurd cc

module _ (schema : Declared) where
  -- a packet of what is left was told, and its line was written
  record OneMore (x next : SoFar) (a b : Outside) : Type 0 where
    content : List ℕ
    event : Logged
    line : List ℕ
    has : HasPacket x.at (input_of a) content (input_of b)
    tells : reports.Tells schema x.past content event line
    is : next ≡ so_far (event ∷ x.past) (end_of x content)
    wrote : output_of b ≡ output_of a ++ line

  -- What the first events of a turn come to: a packet is still read; its line is still written; the turn is over; the input ends; it is refused; it can't be read; or the
  -- line can't be written.
  data TurnTo (x : SoFar) (a b : Outside) (t u : List Event) (r : Turn SoFar Status) : Type 0 where
    reads : 0 < length u → Throughout IsFileRead t → TurnTo x a b t u r
    puts : 0 < length u → (line : List ℕ) → Next schema x.past x.at (input_of a) line → Throughout ToOutput t → AddsPrefix (output_of a) (output_of b) line → TurnTo x a b t u r
    goes : (next : SoFar) → u ≡ [] → r ≡ again next → Throughout ToOutput t → OneMore x next a b → TurnTo x a b t u r
    at_end : u ≡ [] → r ≡ leave statuses.Done → Throughout IsFileRead t → input_of a ≡ [] → TurnTo x a b t u r
    stops_at : (place : ℕ) (why : List ℕ) (status : Status) (first rest : List Event) (m : Outside) → t ≡ first ++ rest → r ≡ leave status → PacketRefused schema x.past x.at (input_of a) place why → Throughout ToOutput first
        → Fits first a m → output_of m ≡ output_of a → Fits rest m b → Tells (input_line place why) statuses.Refused (rest ++ u) status → TurnTo x a b t u r
    no_read : (status : Status) (first rest : List Event) (m : Outside) → t ≡ first ++ rest → r ≡ leave status → Throughout IsFileRead first → Fits first a m → Fits rest m b → Happened (IsFailure kinds.Reads) first
        → (IsReliable a → ⊥) → Unread (rest ++ u) status → TurnTo x a b t u r
    no_write : (status : Status) (first rest : List Event) (m : Outside) (line : List ℕ) → t ≡ first ++ rest → r ≡ leave status → Throughout ToOutput first → Fits first a m → Fits rest m b
        → Next schema x.past x.at (input_of a) line → AddsPrefix (output_of a) (output_of m) line → Happened (IsFailure kinds.Writes) first → (IsReliable a → a.view.room < length (output_of a) + length line)
        → Tells write_fault_line statuses.WriteFault (rest ++ u) status → TurnTo x a b t u r

  -- ---- after a packet was taken

  module _ (x : SoFar) (a m b : Outside) (taken : List Event) (are : Throughout IsFileRead taken) (fit : Fits taken a m) where
    same_output : output_of m ≡ output_of a
    same_output = output_left taken a m fit (reads_to_errors taken are)

    split_more : (t first more : List Event) → t ≡ first ++ more → taken ++ t ≡ (taken ++ first) ++ more
    split_more t first more splits = ap (λ (l : List Event). taken ++ l) splits ∙ sym (append_assoc taken first more)

    outputs : (t : List Event) → Throughout ToOutput t → Throughout ToOutput (taken ++ t)
    outputs t h = throughout_both ToOutput taken t (reads_to_output taken are) h

    write_outputs : (line : List ℕ) (first : List Event) (ok : Bool) → Writes outs.Output line first ok → Throughout ToOutput first
    write_outputs line first ok w = keeps_write ToOutput outs.Output line (λ piece. tt) tt first ok w

    -- a line is still written
    still_puts : (line : List ℕ) (ok : Bool) (first rest t u more : List Event) (e : Event) (r : Turn SoFar Status) → Next schema x.past x.at (input_of a) line → Writes outs.Output line first ok → first ≡ t ++ e ∷ more → u ≡ e ∷ (more ++ rest)
        → Fits t m b → TurnTo x a b (taken ++ t) u r
    still_puts line ok first rest t u more e r next w splits later g =
        puts (some_more e more u rest later) line next (outputs t (throughout_first ToOutput t (e ∷ more) (subst (Throughout ToOutput) splits (write_outputs line first ok w))))
        (subst (λ (l : List ℕ). AddsPrefix l (output_of b) line) same_output (writes_begun outs.Output line t (e ∷ more) ok m b (subst (λ (l : List Event). Writes outs.Output line l ok) splits w) g))

    refused_after_none : (place : ℕ) (why : List ℕ) (ok : Bool) (first more t u : List Event) (status : Status) (r : Turn SoFar Status) → r ≡ leave status → PacketRefused schema x.past x.at (input_of a) place why → Writes outs.Output [] first ok
        → after_output (refused (input_line place why)) ok (more ++ u) status → t ≡ first ++ more → Fits t m b → TurnTo x a b (taken ++ t) u r
    refused_after_none place why true first more t u status r is refuses w h splits g =
        let parts = fits_both first more m b (subst (λ (l : List Event). Fits l m b) splits g) in
        stops_at place why status (taken ++ first) more parts.0 (split_more t first more splits) is refuses (outputs first (write_outputs [] first true w)) (fits_join taken first a m parts.0 fit parts.1)
        (writes_append outs.Output [] first m parts.0 w parts.1 ∙ append-nil (output_of m) ∙ same_output) parts.2 h
    refused_after_none place why false first more t u status r is refuses w h splits g = absurd (omega (arith, w.4, ap length w.3, length-append w.0 w.1))

    refusal_cut : (place : ℕ) (why : List ℕ) (t u : List Event) (status : Status) (r : Turn SoFar Status) → r ≡ leave status → PacketRefused schema x.past x.at (input_of a) place why → (h : Prints (refused (input_line place why)) (t ++ u) status)
        → Fits t m b → Cut h.first h.rest t u → TurnTo x a b (taken ++ t) u r
    refusal_cut place why t u status r is refuses h g (past more splits after) =
        refused_after_none place why h.between h.first more t u status r is refuses h.does (subst (λ (l : List Event). after_output (refused (input_line place why)) h.between l status) after h.goes) splits g
    refusal_cut place why t u status r is refuses h g (within e more splits later) = still_puts [] h.between h.first h.rest t u more e r nothing h.does splits later g

    refusal_to : (place : ℕ) (why : List ℕ) (t u : List Event) (r : Turn SoFar Status) → PacketRefused schema x.past x.at (input_of a) place why → Last (TellsRefusal place why) (t ++ u) r → Fits t m b → TurnTo x a b (taken ++ t) u r
    refusal_to place why t u r refuses l g =
        let (status, h, is) = last_is (TellsRefusal place why) (t ++ u) r l in
        refusal_cut place why t u status r is refuses h g (cut h.first h.rest t u h.splits)

    module _ (content : List ℕ) (has : HasPacket x.at (input_of a) content (input_of m)) (event : Logged) (line : List ℕ) (tells : reports.Tells schema x.past content event line) where
      abbrev next : SoFar
      next = so_far (event ∷ x.past) (end_of x content)

      comes_next : Next schema x.past x.at (input_of a) line
      comes_next = a_line content (input_of m) event line has tells

      line_over : (ok : Bool) (first more t u : List Event) (r : Turn SoFar Status) → Writes outs.Output line first ok → after_line next ok (more ++ u) r → t ≡ first ++ more → Fits t m b → TurnTo x a b (taken ++ t) u r
      line_over true first more t u r w h splits g =
          let none = both_none more u h.0 in
          let same : t ≡ first = splits ∙ ap (λ (l : List Event). first ++ l) none.0 ∙ append-nil first in
          let wrote = subst (λ (l : List Event). Writes outs.Output line l true) (sym same) w in
          let output = writes_append outs.Output line t m b wrote g ∙ ap (λ (l : List ℕ). l ++ line) same_output in
          let left : input_of b ≡ input_of m = dry_keeps t m b g (keeps_write IsDry outs.Output line (λ piece. tt) tt t true wrote) in
          goes next none.1 h.1 (outputs t (write_outputs line t true wrote))
          (record { content = content; event = event; line = line; has = subst (λ (l : List ℕ). HasPacket x.at (input_of a) content l) (sym left) has; tells = tells; is = refl; wrote = output })
      line_over false first more t u r w h splits g =
          let parts = fits_both first more m b (subst (λ (l : List Event). Fits l m b) splits g) in
          let (status, told_so, is) = last_is (Tells write_fault_line statuses.WriteFault) (more ++ u) r h in
          let kept = fits_keeps taken a m fit in
          no_write status (taken ++ first) more parts.0 line (split_more t first more splits) is (outputs first (write_outputs line first false w)) (fits_join taken first a m parts.0 fit parts.1) parts.2 comes_next
          (subst (λ (l : List ℕ). AddsPrefix l (output_of parts.0) line) same_output (writes_some outs.Output line first m parts.0 w parts.1)) (happened_last (IsFailure kinds.Writes) taken first (not_written outs.Output line first w))
          (λ reliable. let full = writes_fail_full outs.Output line first m parts.0 w parts.1 (reliable_on a m kept reliable) in omega (arith, full, kept.room, ap length same_output)) told_so

      line_cut : (t u : List Event) (r : Turn SoFar Status) (h : Then (Writes outs.Output line) (after_line next) (t ++ u) r) → Fits t m b → Cut h.first h.rest t u → TurnTo x a b (taken ++ t) u r
      line_cut t u r h g (past more splits after) = line_over h.between h.first more t u r h.does (subst (λ (l : List Event). after_line next h.between l r) after h.goes) splits g
      line_cut t u r h g (within e more splits later) = still_puts line h.between h.first h.rest t u more e r comes_next h.does splits later g

    whole_to : (content : List ℕ) (t u : List Event) (r : Turn SoFar Status) → IsPacketLength (length content) → input_of a ≡ packet content ++ input_of m → OfPacket schema x content (t ++ u) r → Fits t m b → TurnTo x a b (taken ++ t) u r
    whole_to content t u r fits is (too_long far h) g = refusal_to x.at (codes "TooLong") t u r (reports.too_long content (input_of m) fits is far refl refl) h g
    whole_to content t u r fits is (no_packet below place why refuses h) g =
        refusal_to place why t u r (reports.content content (input_of m) (record { length_fits = fits; there = is; within = below }) refuses) h g
    whole_to content t u r fits is (told below e line tells h) g =
        line_cut content (record { length_fits = fits; there = is; within = below }) e line tells t u r h g (cut h.first h.rest t u h.splits)

    after_to : (v : PacketView) (t u : List Event) (r : Turn SoFar Status) → TakesPacket Input taken v → after_packet schema x v (t ++ u) r → Fits t m b → TurnTo x a b (taken ++ t) u r
    after_to (whole content) t u r takes h g = whole_to content t u r (whole_packet Input taken content takes).0 (packet_left Input taken (whole content) a m takes fit) h g
    after_to packets.none t u r takes h g =
        let (status, over, is) = last_is (Ends statuses.Done) (t ++ u) r h in
        let empty = both_none t u over.0 in
        at_end empty.1 (is ∙ ap leave over.1) (subst (λ (l : List Event). Throughout IsFileRead (taken ++ l)) (sym empty.0) (throughout_both IsFileRead taken [] are tt)) (packet_left Input taken packets.none a m takes fit)
    after_to (wrong (BadLength n)) t u r takes h g =
        let left = packet_left Input taken (wrong (BadLength n)) a m takes fit in
        refusal_to x.at (codes "BadLength " ++ decimal n) t u r (reports.bad_length n (input_of m) left.0 left.2 left.1 refl refl) h g
    after_to (packets.wrong (Ended had)) t u r takes h g =
        let left = packet_left Input taken (packets.wrong (Ended had)) a m takes fit in
        refusal_to x.at (codes "Ended " ++ decimal had) t u r (reports.ended left.0 left.2 refl (ap (λ (n : ℕ). codes "Ended " ++ decimal n) left.1)) h g
    after_to packets.broken t u r takes h g =
        let (status, lost, is) = last_is Unread (t ++ u) r h in
        let fails = broken_packet Input taken takes in
        no_read status taken t m refl is are fit g fails
        (λ reliable. none_missing a taken (keeps_packet Input (λ e. IsMissing a e → ⊥) (λ bytes no. no) (λ no. no) (λ no. no) taken packets.broken takes) (reads_fail_alone taken a m fit reliable fails)) lost

  packet_reads : (t : List Event) (v : PacketView) → TakesPacket Input t v → Throughout IsFileRead t
  packet_reads = keeps_packet Input IsFileRead (λ bytes. tt) tt tt

  turn_cut : (x : SoFar) (t u : List Event) (r : Turn SoFar Status) (a b : Outside) (h : TellsNext schema x (t ++ u) r) → Fits t a b → Cut h.first h.rest t u → TurnTo x a b t u r
  turn_cut x t u r a b h f (past more splits after) =
      let parts = fits_both h.first more a b (subst (λ (l : List Event). Fits l a b) splits f) in
      subst (λ (l : List Event). TurnTo x a b l u r) (sym splits)
      (after_to x a parts.0 b h.first (packet_reads h.first h.between h.does) parts.1 h.between more u r h.does (subst (λ (l : List Event). after_packet schema x h.between l r) after h.goes) parts.2)
  turn_cut x t u r a b h f (within e more splits later) =
      reads (some_more e more u h.rest later) (throughout_first IsFileRead t (e ∷ more) (subst (Throughout IsFileRead) splits (packet_reads h.first h.between h.does)))

  turn_to : (x : SoFar) (t u : List Event) (r : Turn SoFar Status) (a b : Outside) → TellsNext schema x (t ++ u) r → Fits t a b → TurnTo x a b t u r
  turn_to x t u r a b h f = turn_cut x t u r a b h f (cut h.first h.rest t u h.splits)

  -- ---- turns before

  -- the file was told up to here
  record Told (file : List ℕ) (x : SoFar) (a b : Outside) (t : List Event) : Type 0 where
    lines : List ℕ
    began : Began schema file x.past x.at (input_of b) lines
    wrote : output_of b ≡ output_of a ++ lines
    only : Throughout ToOutput t
    fits : Fits t a b

  one_on : (file : List ℕ) (x next : SoFar) (a m b : Outside) (t u : List Event) → Told file x a m t → OneMore x next m b → Throughout ToOutput u → Fits u m b → Told file next a b (t ++ u)
  one_on file x y a m b t u so one only g =
      subst (λ (z : SoFar). Told file z a b (t ++ u)) (sym one.is) (record {
        lines = so.lines ++ one.line;
        began = reports.one_more x.past x.at (input_of m) so.lines one.content (input_of b) one.event one.line so.began one.has one.tells;
        wrote = one.wrote ∙ ap (λ (l : List ℕ). l ++ one.line) so.wrote ∙ append_assoc (output_of a) so.lines one.line;
        only = throughout_both ToOutput t u so.only only;
        fits = fits_join t u a m b so.fits g;
      })

  none_on : (x : SoFar) (a : Outside) → x ≡ so_far [] 0 → Told (input_of a) x a a []
  none_on x a is = subst (λ (z : SoFar). Told (input_of a) z a a []) (sym is) (record { lines = []; began = reports.none; wrote = sym (append-nil (output_of a)); only = tt; fits = refl })

  -- a turn that is over
  turn_over : (file : List ℕ) (x next : SoFar) (a m b : Outside) (t u : List Event) → Told file x a m t → Fits u m b → TurnTo x m b u [] (again next) → Told file next a b (t ++ u)
  turn_over file x next a m b t u so g (reads few only) = absurd (omega (arith, few))
  turn_over file x next a m b t u so g (puts few line comes only some) = absurd (omega (arith, few))
  turn_over file x next a m b t u so g (goes other none is only one) =
      one_on file x next a m b t u so (subst (λ (z : SoFar). OneMore x z m b) (sym (let same : ◌≡◌ {A = Turn SoFar Status} (again next) (again other) = is in cc)) one) only g
  turn_over file x next a m b t u so g (at_end none is only empty) = absurd (let no : again next ≡ leave statuses.Done = is in cc)
  turn_over file x next a m b t u so g (stops_at place why status first rest k splits is because only f same h told_so) = absurd (let no : again next ≡ leave status = is in cc)
  turn_over file x next a m b t u so g (no_read status first rest k splits is only f h fails none lost) = absurd (let no : again next ≡ leave status = is in cc)
  turn_over file x next a m b t u so g (no_write status first rest k line splits is only f h comes some fails full told_so) = absurd (let no : again next ≡ leave status = is in cc)

  reached : (t : List Event) (x : SoFar) (a b : Outside) → Reaches (TellsNext schema) (so_far [] 0) t x → Fits t a b → Told (input_of a) x a b t
  reached t x a b (here _ _ empty is) f =
      let stays : b ≡ a = subst (λ (l : List Event). Fits l a b) empty f in
      subst (λ (l : List Event). Told (input_of a) x a b l) (sym empty) (subst (λ (o : Outside). Told (input_of a) x a o []) (sym stays) (none_on x a is))
  reached t x a b (turn _ first rest between _ splits before this) f =
      let parts = fits_both first rest a b (subst (λ (l : List Event). Fits l a b) splits f) in
      let next = turn_to between rest [] (again x) parts.0 b (subst (λ (l : List Event). TellsNext schema between l (again x)) (sym (append-nil rest)) this) parts.2 in
      subst (λ (l : List Event). Told (input_of a) x a b l) (sym splits) (turn_over (input_of a) between x a parts.0 b first rest (reached first between a parts.0 before parts.1) parts.2 next)

  -- a turn that was begun, after those before it
  record Within (file : List ℕ) (a b : Outside) (t : List Event) : Type 0 where
    x : SoFar
    next : SoFar
    m : Outside
    first : List Event
    rest : List Event
    later : List Event
    splits : t ≡ first ++ rest
    so : Told file x a m first
    fits : Fits rest m b
    some : 0 < length later
    turns : TurnTo x m b rest later (again next)

  begun_turn : (first rest : List Event) (between x : SoFar) (t u : List Event) (a b : Outside) → Reaches (TellsNext schema) (so_far [] 0) first between → TellsNext schema between rest (again x) → 0 < length u → Fits t a b → Cut first rest t u
      → ((e : Event) (more : List Event) → first ≡ t ++ e ∷ more → Within (input_of a) a b t) → Within (input_of a) a b t
  begun_turn first rest between x t u a b before this some f (past more splits after) deeper =
      let parts = fits_both first more a b (subst (λ (l : List Event). Fits l a b) splits f) in
      record {
        x = between;
        next = x;
        m = parts.0;
        first = first;
        rest = more;
        later = u;
        splits = splits;
        so = reached first between a parts.0 before parts.1;
        fits = parts.2;
        some = some;
        turns = turn_to between more u (again x) parts.0 b (subst (λ (l : List Event). TellsNext schema between l (again x)) after this) parts.2;
      }
  begun_turn first rest between x t u a b before this some f (within e more splits later) deeper = deeper e more splits

  begun_reached : (w : List Event) (x : SoFar) → Reaches (TellsNext schema) (so_far [] 0) w x → (t u : List Event) (a b : Outside) → w ≡ t ++ u → 0 < length u → Fits t a b → Within (input_of a) a b t
  begun_reached w x (here _ _ empty is) t u a b whole_is some f = absurd (omega (arith, some, ap length (sym whole_is ∙ empty), length-append t u))
  begun_reached w x (turn _ first rest between _ splits before this) t u a b whole_is some f =
      begun_turn first rest between x t u a b before this some f (cut first rest t u (sym whole_is ∙ splits))
      (λ e more is. begun_reached first between before t (e ∷ more) a b is (omega arith) f)

  -- ---- packets

  module _ (file : List ℕ) where
    abbrev Fine : Type 0
    Fine = IsSchema schema × AreBytes file

    begins_with : (x : SoFar) (left lines line prefix rest : List ℕ) → Began schema file x.past x.at left lines → Next schema x.past x.at left line → prefix ++ rest ≡ line → Fine → BeginsWith (OfPackets schema file) (lines ++ prefix)
    begins_with x left lines line prefix rest began comes join fine =
        let b = answered_next schema fine.0 file fine.1 x.past x.at left lines line began comes in
        record {
          answer = b.answer;
          is = b.is;
          more = rest ++ b.more;
          output = b.output ∙ ap (λ (l : List ℕ). (lines ++ l) ++ b.more) (sym join) ∙ ap (λ (l : List ℕ). l ++ b.more) (sym (append_assoc lines prefix rest)) ∙ append_assoc (lines ++ prefix) rest b.more;
        }

    begins_lines : (x : SoFar) (left lines : List ℕ) → Began schema file x.past x.at left lines → Fine → BeginsWith (OfPackets schema file) lines
    begins_lines x left lines began fine = subst (BeginsWith (OfPackets schema file)) (append-nil lines) (begins_with x left lines [] [] [] began nothing refl fine)

    module _ (x : SoFar) (a m : Outside) (first : List Event) (so : Told file x a m first) where
      puts_more : (b : Outside) (t : List Event) (line : List ℕ) → Throughout ToOutput t → Fits t m b → output_of b ≡ output_of m ++ line → Puts (Unit {0}) a b (first ++ t) (so.lines ++ line)
      puts_more b t line only g wrote = record {
        fits = fits_join first t a m b so.fits g;
        only = throughout_both ToOutput first t so.only only;
        spares = inr tt;
        grew = wrote ∙ ap (λ (l : List ℕ). l ++ line) so.wrote ∙ append_assoc (output_of a) so.lines line;
      }

      puts_none : (b : Outside) (t : List Event) → Throughout ToOutput t → Fits t m b → output_of b ≡ output_of m → Puts (Unit {0}) a b (first ++ t) so.lines
      puts_none b t only g same = subst (Puts (Unit {0}) a b (first ++ t)) (append-nil so.lines) (puts_more b t [] only g (same ∙ sym (append-nil (output_of m))))

      begun_lines : IsBegun Fine (OfPackets schema file) so.lines
      begun_lines = inr (begins_lines x (input_of m) so.lines so.began)

      split_on : (t before rest : List Event) → t ≡ before ++ rest → first ++ t ≡ (first ++ before) ++ rest
      split_on t before rest splits = ap (λ (l : List Event). first ++ l) splits ∙ sym (append_assoc first before rest)

      abbrev Goes : Outside → List Event → List Event → Status → Type 0
      Goes b t u status = GoesTo (OfPackets schema file) Fine (Unit {0}) a b (first ++ t) u status

      -- a turn was cut short
      halted_by : (next : SoFar) (b : Outside) (t v u : List Event) (status : Status) → 0 < length v → 0 < length u → Fits t m b → TurnTo x m b t v (again next) → Goes b t u status
      halted_by next b t v u status few some g (reads h only) = halted some so.lines (puts_none b t (reads_to_output t only) g (output_left t m b g (reads_to_errors t only))) begun_lines
      halted_by next b t v u status few some g (puts h line comes only (prefix, rest, join, wrote)) =
          halted some (so.lines ++ prefix) (puts_more b t prefix only g wrote) (inr (begins_with x (input_of m) so.lines line prefix rest so.began comes join))
      halted_by next b t v u status few some g (goes other none is only one) = absurd (omega (arith, few, ap length none))
      halted_by next b t v u status few some g (at_end none is only empty) = absurd (omega (arith, few, ap length none))
      halted_by next b t v u status few some g (stops_at place why s before rest k splits is because only f same h told_so) = absurd (let no : again next ≡ leave s = is in cc)
      halted_by next b t v u status few some g (no_read s before rest k splits is only f h fails none lost) = absurd (let no : again next ≡ leave s = is in cc)
      halted_by next b t v u status few some g (no_write s before rest k line splits is only f h comes part fails full told_so) = absurd (let no : again next ≡ leave s = is in cc)

      leave_is : (r s : Status) → ◌≡◌ {A = Turn SoFar Status} (leave r) (leave s) → r ≡ s
      leave_is r s is = cc

      nothing_told : Tells [] statuses.Done [] statuses.Done
      nothing_told = record { first = []; rest = []; between = true; splits = refl; does = record { pieces = []; events = refl; join = refl }; goes = (refl, refl) }

      -- the last turn
      ends_by_turn : (b : Outside) (t u : List Event) (status : Status) → Fits t m b → TurnTo x m b t u (leave status) → Goes b t u status
      ends_by_turn b t u status g (reads few only) = halted few so.lines (puts_none b t (reads_to_output t only) g (output_left t m b g (reads_to_errors t only))) begun_lines
      ends_by_turn b t u status g (puts few line comes only (prefix, rest, join, wrote)) =
          halted few (so.lines ++ prefix) (puts_more b t prefix only g wrote) (inr (begins_with x (input_of m) so.lines line prefix rest so.began comes join))
      ends_by_turn b t u status g (goes other none is only one) = absurd (let no : leave status ≡ again other = is in cc)
      ends_by_turn b t u status g (at_end none is only empty) =
          ends (done so.lines) (first ++ t) [] b (sym (append-nil (first ++ t))) (puts_none b t (reads_to_output t only) g (output_left t m b g (reads_to_errors t only))) refl
          (answers.told x.past x.at so.lines (subst (λ (l : List ℕ). Began schema file x.past x.at l so.lines) empty so.began) refl)
          (subst (λ (s : Status). Tells [] statuses.Done u s) (sym (leave_is status statuses.Done is)) (subst (λ (l : List Event). Tells [] statuses.Done l statuses.Done) (sym none) nothing_told))
      ends_by_turn b t u status g (stops_at place why s before rest k splits is because only f same h told_so) =
          ends (refused_after so.lines (input_line place why)) (first ++ before) rest k (split_on t before rest splits) (puts_none k before only f same) h
          (answers.no_packet x.past x.at (input_of m) so.lines place why so.began because refl) (subst (λ (z : Status). Tells (input_line place why) statuses.Refused (rest ++ u) z) (sym (leave_is status s is)) told_so)
      ends_by_turn b t u status g (no_read s before rest k splits is only f h fails none lost) =
          unread (first ++ before) rest k so.lines (split_on t before rest splits) (puts_none k before (reads_to_output before only) f (output_left before m k f (reads_to_errors before only))) h begun_lines
          (happened_last (IsFailure kinds.Reads) first before fails) (subst (λ (z : Status). Unread (rest ++ u) z) (sym (leave_is status s is)) lost)
          (λ reliable y of. none (reliable_on a m (fits_keeps first a m so.fits) reliable))
      ends_by_turn b t u status g (no_write s before rest k line splits is only f h comes (prefix, after, join, wrote) fails full told_so) =
          let kept = fits_keeps first a m so.fits in
          unwritten (first ++ before) rest k (so.lines ++ prefix) (so.lines ++ line) (split_on t before rest splits) (puts_more k before prefix only f wrote) h (begins_with x (input_of m) so.lines line prefix after so.began comes join)
          (happened_last (IsFailure kinds.Writes) first before fails) (subst (λ (z : Status). Tells write_fault_line statuses.WriteFault (rest ++ u) z) (sym (leave_is status s is)) told_so)
          (λ reliable. let most = full (reliable_on a m kept reliable) in omega (arith, most, kept.room, ap length so.wrote, length-append (output_of a) so.lines, length-append so.lines line))
          (λ fine y of. output_after schema fine.0 file fine.1 y of x.past x.at (input_of m) so.lines line so.began comes)

  abbrev OfLeft : Outside → Answer → Type 0
  OfLeft a = OfPackets schema (input_of a)

  abbrev GoesSo : Outside → Outside → List Event → List Event → Status → Type 0
  GoesSo a b t u status = GoesTo (OfLeft a) (Fine (input_of a)) (Unit {0}) a b t u status

  packets_cut : (t u : List Event) (status : Status) (a b : Outside) (h : TellsPackets schema (t ++ u) status) → Fits t a b → Cut h.first h.rest t u → GoesSo a b t u status
  packets_cut t u status a b h f (past more splits after) =
      let parts = fits_both h.first more a b (subst (λ (l : List Event). Fits l a b) splits f) in
      let so = reached h.first h.between a parts.0 h.does parts.1 in
      let last = turn_to h.between more u (leave status) parts.0 b (subst (λ (l : List Event). TellsNext schema h.between l (leave status)) after h.goes) parts.2 in
      subst (λ (l : List Event). GoesSo a b l u status) (sym splits) (ends_by_turn (input_of a) h.between a parts.0 h.first so b more u status parts.2 last)
  packets_cut t u status a b h f (within e more splits later) =
      let w = begun_reached h.first h.between h.does t (e ∷ more) a b splits (omega arith) f in
      subst (λ (l : List Event). GoesSo a b l u status) (sym w.splits)
      (halted_by (input_of a) w.x a w.m w.first w.so w.next b w.rest w.later u status w.some (some_more e more u h.rest later) w.fits w.turns)

  pub packets_go : (t u : List Event) (status : Status) (a b : Outside) → TellsPackets schema (t ++ u) status → Fits t a b → GoesTo (OfPackets schema (input_of a)) (IsSchema schema × AreBytes (input_of a)) (Unit {0}) a b t u status
  packets_go t u status a b h f = packets_cut t u status a b h f (cut h.first h.rest t u h.splits)
