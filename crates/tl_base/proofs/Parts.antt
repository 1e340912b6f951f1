-- One slot or one out of a view changes alone.
use Rattle.std.proofs.Common.{◌≡◌, ℕ, ◌-◌, List, [], ◌∷◌, length, get_or, set, refl, ap, ◌∙◌, arith}
use Rattle.std.proofs.lemmas.List.{length-set, get_or-set_same}
use Rattle.tl_base.specs.Outside.{View, Left, Written, slot_part, with_slot, left_of, with_left, last_or, with_last, if_no_list, out_part, with_out, written_of, with_written}
use Rattle.tl_base.specs.declared.host.Slot.{Slot}
use Rattle.tl_base.specs.declared.host.Slot.TheVariants as slots
use Rattle.tl_base.specs.declared.host.Out.{Out}
use Rattle.tl_base.specs.declared.host.Out.TheVariants as outs

-- ---- slots

slot_back : (slot : Slot) (bytes : List ℕ) (l : Left) → slot_part slot (with_slot slot bytes l) ≡ bytes
slot_back slots.Schema bytes l = refl
slot_back slots.Input bytes l = refl
slot_back slots.State bytes l = refl
slot_back slots.Link bytes l = refl

pub left_back : (slot : Slot) (bytes : List ℕ) (v : View) → left_of slot (with_left slot bytes v) ≡ bytes
left_back slot bytes v = slot_back slot bytes v.left

-- ---- lists of what was written to links

last_back : (bytes none : List ℕ) (ls : List (List ℕ)) → last_or (if_no_list bytes ls none) (with_last bytes ls) ≡ bytes
last_back bytes none [] = refl
last_back bytes none (x ∷ xs) =
    let i : ℕ = length (x ∷ xs) - 1 in
    ap (λ (k : ℕ). get_or (set (x ∷ xs) i bytes) (k - 1) none) (length-set (x ∷ xs) i bytes) ∙ get_or-set_same (x ∷ xs) i bytes none (omega arith)

-- ---- outs

out_back : (out : Out) (bytes : List ℕ) (w : Written) → out_part out (with_out out bytes w) ≡ bytes
out_back outs.Output bytes w = refl
out_back outs.Errors bytes w = refl
out_back outs.State bytes w = refl
out_back outs.Link bytes w = last_back bytes w.unlinked w.links

pub written_back : (out : Out) (bytes : List ℕ) (v : View) → written_of out (with_written out bytes v) ≡ bytes
written_back out bytes v = out_back out bytes v.written
