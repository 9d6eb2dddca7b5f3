use Rattle.lower_image.proofs.FromAllFacets.{all_facets}
use Rattle.lower_image.proofs.laws.from_all_facets.Goals as goal

pub returns : goal.returns
returns c = all_facets
