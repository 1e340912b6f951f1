use Rattle.tl_decode.proofs.SizesTexts.{texts_have_few_fields, texts_have_conditions}
use Rattle.tl_decode.proofs.SizesWidths.{types_have_widths}
use Rattle.tl_decode.proofs.laws.each_text_allows_the_bound.Goals as goal

pub returns : goal.returns
returns c = record { fields = texts_have_few_fields; flags = texts_have_conditions; widths = types_have_widths }
