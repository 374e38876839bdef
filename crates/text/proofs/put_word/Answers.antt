-- `put_word` meets its contract: the word is copied to its part of the output.
use Rattle.text.proofs.Texts.{puts-word}
use Rattle.text.proofs.put_word.Goals as goal

pub returns : goal.returns
returns c = puts-word _ _ _ _ c.copy_from_slice.ensures.after c.requires
