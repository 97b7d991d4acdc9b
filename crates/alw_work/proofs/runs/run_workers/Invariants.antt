-- The type of the locks names this image, these parameters and the links that were laid, and that of the queue the number of nodes.
use Rattle.alw_image.specs.Images.{node_count}
use Rattle.alw_work.proofs.runs.run_workers.Given as goal

abbrev pub ghosts-run_named-I-Naming : goal.ghosts-run_named-I-Naming
ghosts-run_named-I-Naming g a = record { image = a.image.now; parameters = a.params.now; links = a.laid.links.items }

abbrev pub ghosts-run_named-I-Counting : goal.ghosts-run_named-I-Counting
ghosts-run_named-I-Counting g a = record { nodes = node_count a.image.now }
