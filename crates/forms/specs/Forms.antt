-- The rows of each form. Assumes nothing.
use Rattle.form.specs.Table as Table
use Rattle.form.specs.Table.{plain, surro, cesu}
use Rattle.forms.specs.declared.Form.{Form}
use Rattle.forms.specs.declared.Form.TheVariants.{Plain, Surro, Cesu}

abbrev pub rows_of : Form → Table.Form
rows_of Plain = plain
rows_of Surro = surro
rows_of Cesu = cesu
