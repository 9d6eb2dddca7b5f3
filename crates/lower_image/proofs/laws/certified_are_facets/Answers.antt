use Rattle.lower_image.proofs.CertifiedFacets.{certified_are_facets}
use Rattle.lower_image.proofs.laws.certified_are_facets.Goals as goal

pub returns : goal.returns
returns c = certified_are_facets
