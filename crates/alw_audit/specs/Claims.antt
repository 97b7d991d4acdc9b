-- What a run claims: its turns, what they printed, and the words of shared data that aren't 0 at its end.
use Rattle.std.specs.Prelude.{List}
use Rattle.alw_msg.specs.declared.events.Entry.{Entry}
use Rattle.alw_image.specs.declared.parts.Parts.{Parts}
use Rattle.alw_image.specs.Parameters.{Parameters}
use Rattle.alw_model.specs.Machine.{state}
use Rattle.alw_model.specs.Runs.{turns_of, prints_of}
use Rattle.alw_model.specs.Counts.{memory_words}
use Rattle.alw_trace.specs.declared.values.Claim.{Claim}

abbrev pub claim_of : Parts → Parameters → List Entry → Claim
claim_of image parameters journal = record {
  image = image;
  turns = turns_of image parameters journal;
  prints = prints_of image parameters journal;
  memory = memory_words image parameters (state image parameters journal);
}
