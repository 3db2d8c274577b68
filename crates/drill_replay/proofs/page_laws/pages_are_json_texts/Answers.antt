-- The pages are written as the values are.
use Rattle.drill_replay.proofs.WrittenTrees.{earlier_read, later_read}
use Rattle.drill_replay.proofs.page_laws.pages_are_json_texts.Goals as goal

pub returns : goal.returns
returns c = record { earlier = earlier_read; later = later_read }
