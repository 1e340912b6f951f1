-- How many bytes the spelling of a value of the forms has, whatever numbers a schema gives its declarations. This project's own.
use Rattle.std.specs.Prelude.{ℕ, ◌+◌, List, [], ◌∷◌, length}
use Rattle.tl_types.specs.Values.{ValueView, int, long, nat, opaque, text, truth, absent, list, node, call, ValueViews, no_values, value}
use Rattle.tl_types.specs.Texts.{text_bytes}
use Rattle.box_events.specs.declared.replies.Frame.{Frame}
use Rattle.box_events.specs.declared.requests.Numbered.{Numbered}
use Rattle.box_events.specs.declared.saved.Saved.{Saved}
use Rattle.box_events.specs.declared.steps.Step.{Step}
use Rattle.wire_forms.specs.declared.form.Cell.{Cell}
use Rattle.wire_forms.specs.declared.form.Cell.TheVariants.{Signed, Body, Ids, Bodies, Many, One, Bare, ManyBare, Query}
use Rattle.wire_forms.specs.declared.numbers.TheConstants.{CLIENT_TYPE, FRAME_TYPE, STEP_TYPE}
use Rattle.wire_forms.specs.Forms.{cells_of}
use Rattle.wire_values.specs.Frames.{frame_tree}
use Rattle.wire_values.specs.Calls.{call_tree}
use Rattle.wire_values.specs.SavedClients.{saved_tree}
use Rattle.wire_values.specs.Steps.{step_tree}

-- what the elements of a vector are
abbrev pub element_of : Cell → Cell
element_of Ids = Signed
element_of Bodies = Body
element_of (Many h) = One h
element_of (ManyBare k) = Bare k
element_of c = c

-- a bare record has no number before its fields
abbrev pub head_size : Cell → ℕ
head_size (Bare k) = 0
head_size c = 4

abbrev mutual
  -- a value of a cell; each vector has its number and its count
  pub size_in : Cell → ValueView → ℕ
  size_in c (int z) = 4
  size_in c (long z) = 8
  size_in c (nat n) = 4
  size_in c (opaque s) = length s
  size_in c (text s) = length (text_bytes s)
  size_in c truth = 0
  size_in c absent = 0
  size_in c (list vs) = 8 + sizes_of (element_of c) vs
  size_in c (node k vs) = head_size c + fields_size (cells_of k) vs
  size_in c (call k vs) = 4 + fields_size (cells_of k) vs

  pub sizes_of : Cell → ValueViews → ℕ
  sizes_of c no_values = 0
  sizes_of c (value v vs) = size_in c v + sizes_of c vs

  pub fields_size : List Cell → ValueViews → ℕ
  fields_size [] vs = 0
  fields_size (c ∷ cs) no_values = 0
  fields_size (c ∷ cs) (value v vs) = size_in c v + fields_size cs vs

-- a frame, a call, a step and a saved client
abbrev pub frame_size : Frame → ℕ
frame_size f = size_in (One FRAME_TYPE) (frame_tree f)

abbrev pub call_size : Numbered → ℕ
call_size n = size_in Query (call_tree n)

abbrev pub step_size : Step → ℕ
step_size s = size_in (One STEP_TYPE) (step_tree s)

abbrev pub saved_size : Saved → ℕ
saved_size s = size_in (One CLIENT_TYPE) (saved_tree s)
