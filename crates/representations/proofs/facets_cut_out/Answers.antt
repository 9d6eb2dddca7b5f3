use Rattle.representations.proofs.FacetsAlong.{facets_cut_out}
use Rattle.representations.proofs.facets_cut_out.Goals as goal

pub returns : goal.returns
returns g c = facets_cut_out g.R.Region.members g.R.Region.directions
