-- The first break of the declarations that are marked is that of the type, where it reaches these.
use Rattle.std.proofs.Common.{◌≡◌, inl, inr, ◌↔◌, ℕ, ◌<◌, ◌^◌, List, length, Bool, Option, Some, None, Result, Ok, Err, refl, ap₂, arith, count_by}
use Rattle.tl_graph.specs.Needs.{IsMarked}
use Rattle.tl_schema.specs.CheckedPrograms.{IsSchema}
use Rattle.tl_schema.specs.Formed.{IsFormed}
use Rattle.tl_schema.specs.Types.{Shape}
use Rattle.tl_schema.specs.Schemas.{Declared}
use Rattle.tl_layers.specs.Reached.{Reached}
use Rattle.tl_layers.specs.Breaks.{IsUnbroken, Breaks}
use Rattle.tl_layers.specs.Compared.{LayersView, Compares, Agrees, RefusesFor}
use Rattle.tl_layers.specs.inner.Pairs.{PairView}
use Rattle.tl_layers.specs.Counterparts.{image}
use Rattle.tl_layers.specs.inner.Tables.{IsFirstOf, IsKeptOf, AreKept, IsKept, IsMade, pair_of}
use Rattle.tl_layers.specs.declared.moved.Moved.{Moved}
use Rattle.tl_layers.specs.declared.fault.Break.{Break}
use Rattle.tl_layers.specs.declared.fault.LayerFault.{LayerFault}
use Rattle.tl_layers.specs.declared.fault.LayerFault.TheVariants.{Broken, Memory}
use Rattle.tl_layers.proofs.OneBreak.{never_both, one_break}
use Rattle.tl_layers.proofs.ReachedPaths.{reached_within}

module _ (old new : Declared) (T : Shape) (good : IsSchema old) (formed : IsFormed old T) (marks : List Bool) (are : (i : ℕ) → IsMarked marks i ↔ Reached old T i) where
  abbrev p : PairView
  p = record { old = old; new = new }

  pub unbroken : IsFirstOf p marks (length old.decls) None → IsUnbroken old new T
  unbroken none i cause r has = none i cause (reached_within old good T i formed r) ((are i).1 r) has

  pub breaks : (b : ℕ × Break) → IsFirstOf p marks (length old.decls) (Some b) → Breaks old new T b.0 b.1
  breaks b f = record {
    reached = (are b.0).0 f.1;
    has = f.2;
    first_cause = λ j other r has lower.
        elim (f.3 j other (reached_within old good T j formed r) ((are j).1 r) has) [ inl more ↦ omega (arith, lower, more) | inr same ↦ (let e = same.0 in omega (arith, lower, e)) ];
    first = λ j other r has same before.
        elim (f.3 j other (reached_within old good T j formed r) ((are j).1 r) has) [ inl more ↦ omega (arith, same, more) | inr equal ↦ (let le = equal.1 in omega (arith, before, le)) ];
  }

-- ---- answers

module _ (l : LayersView) where
  pub agrees : (result : Result LayersView LayerFault) → Compares l result → IsUnbroken l.old l.new l.of → Agrees l result
  agrees (Ok layers) c whole = c.0
  agrees (Err (Broken i cause)) c whole = absurd (never_both l.old l.new l.of i cause whole c)
  agrees (Err Memory) c whole = refl

  pub refuses : (result : Result LayersView LayerFault) → Compares l result → (i : ℕ) (cause : Break) → Breaks l.old l.new l.of i cause → RefusesFor i cause result
  refuses (Ok layers) c i cause b = never_both l.old l.new l.of i cause c.1 b
  refuses (Err (Broken j other)) c i cause b = let one = one_break l.old l.new l.of j i other cause c b in inl (ap₂ Broken one.0 one.1)
  refuses (Err Memory) c i cause b = inr refl

-- ---- what is kept

module _ (l : LayersView) (good_old : IsSchema l.old) (good_new : IsSchema l.new) (formed : IsFormed l.old l.of) (marks : List Bool) (are : (i : ℕ) → IsMarked marks i ↔ Reached l.old l.of i) where
  kept_is : (i : ℕ) (o : Option Moved) → IsKeptOf (pair_of l) marks i o → IsKept l i o
  kept_is i None off = λ r. off ((are i).1 r)
  kept_is i (Some m) k = ((are i).0 k.0, k.1)

  pub is_made : (moved : List (Option Moved)) → AreKept (pair_of l) marks (length l.old.decls) moved → IsFirstOf (pair_of l) marks (length l.old.decls) None → (made : Shape) → made ≡ image l.old l.new l.of → (count : ℕ) → count ≡ count_by (λ b. b) marks → IsMade l made moved count
  is_made moved kept none made image_is count counted = record {
    layers = record { old_is = good_old; new_is = good_new; formed = formed; unbroken = unbroken l.old l.new l.of good_old formed marks are none };
    image = image_is;
    long = kept.long;
    each = λ i o at. kept_is i o (kept.each i o at);
    counted = (marks, are, counted);
  }

pub few_marks : (S : Declared) → IsSchema S → (marks : List Bool) → length marks ≡ length S.decls → length marks < 2 ^ 32
few_marks S good marks long = let few = good.small.few in let count = good.count in omega (arith, long, few, count)
