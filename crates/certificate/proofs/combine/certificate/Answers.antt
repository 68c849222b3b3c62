-- `certificate` meets its contract. Assumes nothing.
use Rattle.certificate.proofs.Written.{certificate_goes_on}
use Rattle.certificate.proofs.Everywhere.{fits_everywhere, kept_asks, kept_is}
use Rattle.certificate.proofs.combine.certificate.Goals as goal

pub add_rows-c-requires-clause-go_on : goal.add_rows-c-requires-clause-go_on
add_rows-c-requires-clause-go_on c = certificate_goes_on (fits_everywhere c.requires.fits) c.clear_lists.ensures.value c.clear_errors.ensures

pub keep_basic_errors-requires : goal.keep_basic_errors-requires
keep_basic_errors-requires c = kept_asks c.requires.fits c.clear_lists.ensures.value c.clear_errors.ensures c.add_rows-c.ensures.value

pub returns-clause-value : goal.returns-clause-value
returns-clause-value c = kept_is c.requires.fits c.clear_lists.ensures.value c.clear_errors.ensures c.add_rows-c.ensures.value c.keep_basic_errors.ensures
