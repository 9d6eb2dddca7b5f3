use Rattle.representations.proofs.FacetsAlong.{facets_generate}
use Rattle.representations.proofs.facets_generate.Goals as goal

pub returns : goal.returns
returns g c = facets_generate g.R.Region.members g.R.Region.directions
